-- `boolean_encoder::alike_block` meets its contract: where no byte before k + j differs, the end owed there is the end owed at k. Assumes nothing.
use mathlib.Core.Path.{◌∙◌, ap}
use native.Mathlib.Omega.{arith}
use borrow.Author.Tests.{eqb-true}
use Rattle.boolean_encoder.proofs.Counting.{end_from, alike-more}
use Rattle.boolean_encoder.proofs.alike_block.Goals as goal
use Rattle.boolean_encoder.proofs.alike_block.Goals.{else-values-k, then-values-k}

pub loop-j-init : goal.loop-j-init
loop-j-init c = (omega arith, λ h. ap (end_from _ _) (omega arith))

pub overflow_add-k : goal.overflow_add-k
overflow_add-k c = omega arith

pub bounds-values-k : goal.bounds-values-k
bounds-values-k c = omega arith

pub overflow_add-j : goal.overflow_add-j
overflow_add-j c = omega arith

pub loop-j-smaller : goal.loop-j-smaller
loop-j-smaller c = omega arith

pub loop-j-preserved : goal.loop-j-preserved
loop-j-preserved c = (
  omega arith,
  λ h.
      (elim c.if-values-k.branch [ then-values-k w ↦ absurd (omega arith) | else-values-k w ↦ c.loop-j.invariant.1 (omega arith) ∙ alike-more _ _ _ (omega arith) w.if-values-k.false ∙ ap (end_from _ _) (omega arith) ]),
)

pub returns : goal.returns
returns c = λ h. c.loop-j.invariant.1 (eqb-true _ _ h) ∙ ap (end_from _ _) (omega arith)
