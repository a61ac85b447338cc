-- `delta_decoder::fill_sums` meets its contract: each sum comes first of those still to come, or is not held. Assumes nothing.
use mathlib.Core.Path.{◌∙◌}
use native.Mathlib.Omega.{arith}
use mir.Syntax.{w64}
use mir.Val.{SFits}
use mir.ValLaws.{to_z-of_z}
use borrow.Author.Rules.{rules}
use Rattle.encoding.specs.Column.{present, repeated}
use Rattle.encoding.proofs.Via.{via}
use Rattle.encoding.specs.Cases.{maybe_of}
use Rattle.encoding.proofs.Running.{partly-start, partly-room, partly-on, partly-end}
use Rattle.delta_decoder.proofs.Summing.{replicate-first, replicate-none, summing_on, summing-out, summing-end}
use Rattle.delta_decoder.proofs.fill_sums.Goals as goal

pub loop-left-init : goal.loop-left-init
unfolding repeated
loop-left-init c = rw (to_z-of_z w64 c.args.d c.ranges.d) (partly-start c.requires.room)

pub bounds-values-i : goal.bounds-values-i
bounds-values-i c =
    let same = to_z-of_z w64 c.args.d c.ranges.d in
    let o = rw same at c.loop-left.invariant in
    let t = rw same at (via maybe_of c.add.ensures c.in-Some.is) in
    let e = replicate-first _ (present c.args.d c.args.q) _ c.loop-left-test.true in
    partly-room o (summing_on _ e _ t)

pub bounds-present-i : goal.bounds-present-i
bounds-present-i c = omega (arith, bounds-values-i c)

pub overflow_add-i : goal.overflow_add-i
overflow_add-i c = omega (arith, bounds-values-i c)

pub overflow_sub-left : goal.overflow_sub-left
overflow_sub-left c = omega arith

pub loop-left-smaller : goal.loop-left-smaller
loop-left-smaller c = omega arith

pub loop-left-preserved : goal.loop-left-preserved
loop-left-preserved c =
    let same = to_z-of_z w64 c.args.d c.ranges.d in
    let o = rw same at c.loop-left.invariant in
    let t = rw same at (via maybe_of c.add.ensures c.in-Some.is) in
    let e = replicate-first _ (present c.args.d c.args.q) _ c.loop-left-test.true in
    let g : SFits w64 c.sum_of.result = search rules in
    rw (same, to_z-of_z w64 c.sum_of.result g ∙ c.sum_of.ensures)
    (partly-on o (summing_on _ e _ t))

pub returns-in_default : goal.returns-in_default
returns-in_default c =
    let same = to_z-of_z w64 c.args.d c.ranges.d in
    let o = rw same at c.loop-left.invariant in
    let t = rw same at (via maybe_of c.add.ensures c.in_default.is) in
    let e = replicate-first _ (present c.args.d c.args.q) _ c.loop-left-test.true in
    let both : _ × _ = partly-end o (summing-out _ e t) in record { result_value = both.0; wrote = both.1 }

pub shape_of-values : goal.shape_of-values
shape_of-values c = c.loop-left.invariant.same-v

pub shape_of-present : goal.shape_of-present
shape_of-present c = c.loop-left.invariant.same-p

pub returns : goal.returns
returns c =
    let o = rw (to_z-of_z w64 c.args.d c.ranges.d) at c.loop-left.invariant in
    let both : _ × _ = partly-end o (summing-end _ (replicate-none _ (present c.args.d c.args.q) _ c.loop-left-test.false)) in record { result_value = both.0; wrote = both.1 }
