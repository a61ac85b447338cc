-- `delta_encoder::repeat_end` meets its contract: up to k, the stretches are those of equal differences before what follows. Assumes nothing.
use Prim.Native.Nat.{◌+◌, ◌-◌, ◌<◌}
use mathlib.Core.Path.{◌≡◌, ◌∙◌}
use native.Mathlib.Omega.{arith}
use borrow.Author.Rules.{rules}
use lib.IntN.{pos}
use lib.ListN.{length}
use Rattle.encoding.proofs.Looking.{repeat-start, repeat-more, off-absent, off-other, off-end}
use Rattle.delta_decoder.specs.Difference.{same_z}
use Rattle.delta_decoder.proofs.DifferenceLaws.{i64-laws}
use Rattle.delta_encoder.proofs.Differing.{flags, last-back}
use Rattle.delta_encoder.proofs.Taking.{read_back, passed, below, upto, past, taken, taken-fits, bits-same, bits-other}
use Rattle.delta_encoder.proofs.repeat_end.Goals as goal

pub overflow_sub-d : goal.overflow_sub-d
overflow_sub-d c =
    let h = c.requires.i_in_bounds in
    taken-fits _ _ c.requires.narrow c.args.i h.0 h.1 (read_back c.d-1.given) (passed c.ranges.last ∙ h.2)

pub loop-k-init : goal.loop-k-init
loop-k-init c =
    let h = c.requires.i_in_bounds in
    let N = c.requires.narrow in
    let e : c.args.i + 1 - 1 ≡ c.args.i = omega arith in
    (omega arith, omega arith, λ z. h.1 (rw e at z), repeat-start same_z (pos 0) _ _ (flags _ _ N.even) _ (below _ _ N _ h.0) h.1)

pub bounds-present-k : goal.bounds-present-k
bounds-present-k c = let e = c.requires.narrow.even in omega arith

pub returns-then-present-k-eq0 : goal.returns-then-present-k-eq0
returns-then-present-k-eq0 c =
    let N = c.requires.narrow in
    let h = c.loop-k.invariant in
    let l = c.loop-k-test.true in
    record {
      later = h.0;
      within = upto _ _ N _ h.1;
      cuts = h.3;
      off = off-absent same_z (pos 0) _ _ (flags _ _ N.even) _ _ (below _ _ N _ l) c.if-present-k-eq0.true;
    }

pub overflow_sub-k : goal.overflow_sub-k
overflow_sub-k c = omega arith

pub offset_bounds-values-k-in-loop-k : goal.offset_bounds-values-k-in-loop-k
offset_bounds-values-k-in-loop-k c = let l : c.loop-k.k - 1 < length c.args.values.now = omega arith in search rules

pub bounds-values-k-in-loop-k : goal.bounds-values-k-in-loop-k
bounds-values-k-in-loop-k c = omega arith

pub overflow_sub-values : goal.overflow_sub-values
overflow_sub-values c =
    let N = c.requires.narrow in
    let h = c.loop-k.invariant in
    let k = c.loop-k.k in
    taken-fits _ _ N k c.loop-k-test.true c.if-present-k-eq0.false (read_back c.t15-1.given)
    (read_back c.t19-1.given ∙ last-back _ _ N.even k (omega arith) h.1 h.2)

pub returns-then-values-k : goal.returns-then-values-k
returns-then-values-k c =
    let N = c.requires.narrow in
    let g = c.requires.i_in_bounds in
    let h = c.loop-k.invariant in
    let k = c.loop-k.k in
    let l = c.loop-k-test.true in
    let f = c.if-present-k-eq0.false in
    let x = taken _ _ N k l f (read_back c.t15-1.given) (read_back c.t19-1.given ∙ last-back _ _ N.even k (omega arith) h.1 h.2) in
    let y = taken _ _ N c.args.i g.0 g.1 (read_back c.d-1.given) (passed c.ranges.last ∙ g.2) in
    record {
      later = h.0;
      within = upto _ _ N _ h.1;
      cuts = h.3;
      off = off-other same_z (pos 0) _ _ (flags _ _ N.even) i64-laws.same-eq i64-laws.same_self _ _ (below _ _ N _ l) f (bits-other _ _ N k _ l g.0 x y c.if-values-k.true);
    }

pub overflow_add-k-in-loop-k : goal.overflow_add-k-in-loop-k
overflow_add-k-in-loop-k c = omega arith

pub loop-k-smaller : goal.loop-k-smaller
loop-k-smaller c = omega arith

pub loop-k-preserved : goal.loop-k-preserved
loop-k-preserved c =
    let N = c.requires.narrow in
    let g = c.requires.i_in_bounds in
    let h = c.loop-k.invariant in
    let k = c.loop-k.k in
    let l = c.loop-k-test.true in
    let f = c.if-present-k-eq0.false in
    let x = taken _ _ N k l f (read_back c.t15-1.given) (read_back c.t19-1.given ∙ last-back _ _ N.even k (omega arith) h.1 h.2) in
    let y = taken _ _ N c.args.i g.0 g.1 (read_back c.d-1.given) (passed c.ranges.last ∙ g.2) in
    let e : k + 1 - 1 ≡ k = omega arith in (
      omega arith,
      omega arith,
      λ z. f (rw e at z),
      repeat-more same_z (pos 0) _ _ (flags _ _ N.even) _ k h.0 (below _ _ N _ l) f (bits-same _ _ N k _ l g.0 x y c.if-values-k.false) h.3,
    )

pub returns : goal.returns
returns c =
    let N = c.requires.narrow in
    let h = c.loop-k.invariant in
    record { later = h.0; within = upto _ _ N _ h.1; cuts = h.3; off = off-end same_z (pos 0) _ _ (flags _ _ N.even) _ _ (past _ _ N _ c.loop-k-test.false) }
