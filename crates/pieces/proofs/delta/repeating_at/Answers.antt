-- `pieces::delta::repeating_at` meets its contract: sums that are kept as unsigned numbers are held where the sums are. Assumes nothing.
use Prim.Native.Nat.{ℕ, suc, ◌+◌}
use mathlib.Core.Path.{◌≡◌, sym, ◌∙◌, ap}
use native.Mathlib.Omega.{arith}
use borrow.Author.Rules.{rules}
use mir.Syntax.{w64}
use mir.Val.{SFits, to_z, of_z}
use mir.ValLaws.{to_z-of_z}
use Rattle.delta_decoder.specs.Sofar.{times_held}
use Rattle.pieces.specs.Cases.{delta_read}
use Rattle.pieces.proofs.Repeating.{times-most, times-again, held-behind}
use Rattle.pieces.proofs.DeltaPieces.{repeating-by}
use Rattle.pieces.proofs.delta.repeating_at.Goals as goal

pub added-requires : goal.added-requires
added-requires c =
    let k = c.args.c in
    let n = c.kept_as-n.result in
    let h = c.times_held-more.ensures in
    let d = to_z w64 (of_z w64 k.difference) in
    ap (λ (m : ℕ). times_held n d m) h ∙ times-again d k.left n ∙ sym h

pub overflow_sub-result : goal.overflow_sub-result
overflow_sub-result c =
    let k = c.args.c in
    let h = c.times_held-more.ensures in
    let l = times-most (to_z w64 (of_z w64 k.difference)) k.left c.kept_as-n.result in
    omega (arith, h, l)

pub overflow_add-result : goal.overflow_add-result
overflow_add-result c =
    let k = c.args.c in
    let h = c.times_held-more.ensures in
    let l = times-most (to_z w64 (of_z w64 k.difference)) k.left c.kept_as-n.result in
    omega (arith, h, l)

pub returns : goal.returns
returns c =
    let a = c.args in
    let k = a.c in
    let fs : SFits w64 k.sum = search rules in
    let fd : SFits w64 k.difference = search rules in
    let m = c.times_held-more.result in
    let t : m + 1 ≡ suc m = omega arith in
    let y = c.sum_of-sum.result in
    let fy : SFits w64 y = search rules in
    let e = rw (to_z-of_z w64 k.sum fs) at c.kept_as-n.ensures in
    let h = rw (to_z-of_z w64 k.difference fd) at c.times_held-more.ensures in
    let g = rw (to_z-of_z w64 k.difference fd) at c.added.ensures in
    let f = held-behind k.difference k.sum k.left c.kept_as-n.result m c.added.result (omega arith) e h g in
    rw (to_z-of_z w64 k.difference fd, to_z-of_z w64 y fy) (sym (repeating-by k (delta_read a.reading) m (m + 1) y f.0 (c.sum_of-sum.ensures ∙ f.1) t))
