-- `rle_decoder::fill_same` meets its contract: the stores still to come, put into the slots as they are, are all of them. Assumes nothing.
use mathlib.Core.Path.{refl, sym, ◌∙◌}
use native.Mathlib.Omega.{arith}
use lib.ListN.{length-set}
use Rattle.encoding.proofs.Lists.{fill_step, fill_none}
use Rattle.rle_decoder.proofs.fill_same.Goals as goal

pub loop-left-init : goal.loop-left-init
loop-left-init c = (c.requires.0, refl, refl, refl, refl)

pub bounds-values-i : goal.bounds-values-i
bounds-values-i c = omega arith

pub bounds-present-i : goal.bounds-present-i
bounds-present-i c = omega arith

pub overflow_add-i : goal.overflow_add-i
overflow_add-i c = omega arith

pub overflow_sub-left : goal.overflow_sub-left
overflow_sub-left c = omega arith

pub loop-left-smaller : goal.loop-left-smaller
loop-left-smaller c = omega arith

pub loop-left-preserved : goal.loop-left-preserved
loop-left-preserved c =
    let h = c.loop-left.invariant in
    let l = c.loop-left-test.true in
    (omega arith, simp length-set h.1, simp length-set h.2, h.3 ∙ fill_step _ _ _ _ l, h.4 ∙ fill_step _ _ _ _ l)

pub shape_of-values : goal.shape_of-values
shape_of-values c = c.loop-left.invariant.1

pub shape_of-present : goal.shape_of-present
shape_of-present c = c.loop-left.invariant.2

pub returns : goal.returns
returns c =
    let h = c.loop-left.invariant in
    let l = c.loop-left-test.false in
    (sym (h.3 ∙ fill_none _ _ _ _ l), sym (h.4 ∙ fill_none _ _ _ _ l))
