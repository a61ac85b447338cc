-- `boolean_encoder::turn_end` meets its contract: the end owed at k is the end owed at i. Assumes nothing.
use mathlib.Core.Path.{refl, sym, ◌∙◌}
use native.Mathlib.Omega.{arith}
use Rattle.boolean_encoder.proofs.Counting.{alike-more, alike-stop}
use Rattle.boolean_encoder.proofs.turn_end.Goals as goal
use Rattle.boolean_encoder.proofs.turn_end.Goals.{else-values-i-lt16, then-values-i-lt16}

pub overflow_sub-values : goal.overflow_sub-values
overflow_sub-values c = omega arith

pub overflow_add-stop : goal.overflow_add-stop
overflow_add-stop c = omega arith

pub loop-k-init : goal.loop-k-init
loop-k-init c = (refl, omega arith, (elim c.if-values-i-lt16.branch [ then-values-i-lt16 w ↦ omega arith | else-values-i-lt16 w ↦ omega arith ]))

pub bounds-values-k : goal.bounds-values-k
bounds-values-k c = omega arith

pub returns-then-values-k : goal.returns-then-values-k
returns-then-values-k c = sym (c.loop-k.invariant.0 ∙ alike-stop _ _ _ (omega arith) c.if-values-k.true)

pub overflow_add-k : goal.overflow_add-k
overflow_add-k c = omega arith

pub loop-k-smaller : goal.loop-k-smaller
loop-k-smaller c = omega arith

pub loop-k-preserved : goal.loop-k-preserved
loop-k-preserved c = (c.loop-k.invariant.0 ∙ alike-more _ _ _ (omega arith) c.if-values-k.false, omega arith, omega arith)

pub far_end-requires : goal.far_end-requires
far_end-requires c = omega arith

pub returns : goal.returns
returns c = c.far_end.ensures ∙ sym c.loop-k.invariant.0
