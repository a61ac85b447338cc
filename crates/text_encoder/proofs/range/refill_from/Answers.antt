-- `text_encoder::range::refill_from` meets its contract: the part of the output is the column. Assumes nothing.
use Prim.Native.Nat.{ℕ, ◌+◌, ◌-◌}
use mathlib.Core.Path.{◌≡◌, sym, ap, subst}
use native.Mathlib.Omega.{arith}
use lib.ListN.{length, take, drop}
use Rattle.text_encoder.specs.Edits.{Refillable}
use Rattle.text_encoder.proofs.Refilling.{refilled-of}
use Rattle.text_encoder.proofs.range.refill_from.Goals as goal

pub refill-requires : goal.refill-requires
refill-requires c =
    let a = c.args in
    let e : (a.at + a.size) - a.at ≡ a.size = omega arith in
    subst (λ (k : ℕ). Refillable (take k (drop a.at a.out.now)) a.m (length a.starts.now) (length a.lens.now) (length a.present.now))
    (sym e) c.requires.refillable

pub returns : goal.returns
returns c =
    let a = c.args in
    let e : (a.at + a.size) - a.at ≡ a.size = omega arith in
    refilled-of (ap (λ (k : ℕ). take k (drop a.at a.out.now)) e) c.refill.ensures
