-- `delta_encoder::stretch_last` meets its contract: a stretch whose last reading is absent is an absent one. Assumes nothing.
use Prim.Native.Nat.{◌-◌, ◌<◌}
use mathlib.Core.Path.{◌∙◌}
use native.Mathlib.Omega.{arith}
use borrow.Author.Rules.{rules}
use lib.ListN.{length}
use Rattle.delta_encoder.proofs.Passing.{stretch-within, last-kept, last-new}
use Rattle.delta_encoder.proofs.Taking.{read_back, passed}
use Rattle.delta_encoder.proofs.stretch_last.Goals as goal

pub bounds-present-k : goal.bounds-present-k
bounds-present-k c =
    let h = c.requires.stretch_at in
    let l = h.later in
    omega (arith, stretch-within _ _ c.requires.present_len _ _ h)

pub returns-then-present-k-eq0 : goal.returns-then-present-k-eq0
returns-then-present-k-eq0 c =
    let k = c.stretch_end-k.ensures in
    passed c.ranges.last ∙ c.requires.last_value ∙ last-kept _ _ c.requires.present_len _ _ c.requires.stretch_at (rw k at c.if-present-k-eq0.true)

pub offset_bounds-values-k : goal.offset_bounds-values-k
offset_bounds-values-k c =
    let h = c.requires.stretch_at in
    let l = h.later in
    let w : c.stretch_end-k.result - 1 < length c.args.values.now = omega (arith, stretch-within _ _ c.requires.present_len _ _ h) in
    search rules

pub bounds-values-k : goal.bounds-values-k
bounds-values-k c =
    let h = c.requires.stretch_at in
    let l = h.later in
    omega (arith, stretch-within _ _ c.requires.present_len _ _ h)

pub returns : goal.returns
returns c =
    let k = c.stretch_end-k.ensures in
    rw k (read_back (rw k at c.result-1.given) ∙ last-new _ _ c.requires.present_len _ _ c.requires.stretch_at (rw k at c.if-present-k-eq0.false))
