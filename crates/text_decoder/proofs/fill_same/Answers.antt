-- `text_decoder::fill_same` meets its contract: the stores still to come, put into the slots as they are, are all of them. Assumes nothing.
use mathlib.Core.Path.{refl, sym, ◌∙◌}
use native.Mathlib.Omega.{arith}
use lib.ListN.{length-set}
use Rattle.encoding.proofs.Lists.{fill_step, fill_none}
use Rattle.text_decoder.proofs.fill_same.Goals as goal

pub loop-left-init : goal.loop-left-init
loop-left-init c = (c.requires.0, refl, refl, refl, refl, refl, refl)

pub bounds-starts-i : goal.bounds-starts-i
bounds-starts-i c = omega arith

pub bounds-lens-i : goal.bounds-lens-i
bounds-lens-i c = omega arith

pub bounds-present-i : goal.bounds-present-i
bounds-present-i c = omega arith

pub overflow_add-i : goal.overflow_add-i
overflow_add-i c = omega arith

pub overflow_sub-left : goal.overflow_sub-left
overflow_sub-left c = omega arith

pub loop-left-smaller : goal.loop-left-smaller
loop-left-smaller c = omega arith

pub loop-left-preserved : goal.loop-left-preserved
loop-left-preserved c =
    let h = c.loop-left.invariant in
    let l = c.loop-left-test.true in (
      omega arith,
      simp length-set h.1,
      simp length-set h.2,
      simp length-set h.3,
      h.4 ∙ fill_step _ _ _ _ l,
      h.5 ∙ fill_step _ _ _ _ l,
      h.6 ∙ fill_step _ _ _ _ l,
    )

pub shape_of-starts : goal.shape_of-starts
shape_of-starts c = c.loop-left.invariant.1

pub shape_of-lens : goal.shape_of-lens
shape_of-lens c = c.loop-left.invariant.2

pub shape_of-present : goal.shape_of-present
shape_of-present c = c.loop-left.invariant.3

pub returns : goal.returns
returns c =
    let h = c.loop-left.invariant in
    let l = c.loop-left-test.false in
    (sym (h.4 ∙ fill_none _ _ _ _ l), sym (h.5 ∙ fill_none _ _ _ _ l), sym (h.6 ∙ fill_none _ _ _ _ l))
