-- `boolean_encoder::far_end` meets its contract: the end owed at k is the end owed at i. Assumes nothing.
use mathlib.Core.Path.{sym, ◌∙◌}
use native.Mathlib.Omega.{arith}
use Rattle.boolean_encoder.proofs.Counting.{alike-more, alike-stop, alike-over}
use Rattle.boolean_encoder.proofs.far_end.Goals as goal

pub loop-k-init : goal.loop-k-init
loop-k-init c = c.skip_blocks-k.ensures.0

pub bounds-values-k : goal.bounds-values-k
bounds-values-k c = omega arith

pub returns-then-values-k : goal.returns-then-values-k
returns-then-values-k c = sym (c.loop-k.invariant ∙ alike-stop _ _ _ c.loop-k-test.true c.if-values-k.true)

pub overflow_add-k : goal.overflow_add-k
overflow_add-k c = omega arith

pub loop-k-smaller : goal.loop-k-smaller
loop-k-smaller c = omega arith

pub loop-k-preserved : goal.loop-k-preserved
loop-k-preserved c = c.loop-k.invariant ∙ alike-more _ _ _ c.loop-k-test.true c.if-values-k.false

pub returns : goal.returns
returns c = sym (c.loop-k.invariant ∙ alike-over _ _ _ c.loop-k-test.false)
