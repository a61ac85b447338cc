-- `given_list::absent_end` meets its contract: the end owed at k is the end owed at i. Assumes nothing.
use mathlib.Core.Path.{refl, sym, ◌∙◌}
use native.Mathlib.Omega.{arith}
use Rattle.encoding.proofs.Presence.{absent_more, absent-stop, absent-over}
use Rattle.given_list.proofs.absent_end.Goals as goal

pub loop-k-init : goal.loop-k-init
loop-k-init c = refl

pub bounds-present-k : goal.bounds-present-k
bounds-present-k c = omega arith

pub returns-then-present-k-ne0 : goal.returns-then-present-k-ne0
returns-then-present-k-ne0 c = sym (c.loop-k.invariant ∙ absent-stop _ _ c.loop-k-test.true c.if-present-k-ne0.true)

pub overflow_add-k : goal.overflow_add-k
overflow_add-k c = omega arith

pub loop-k-smaller : goal.loop-k-smaller
loop-k-smaller c = omega arith

pub loop-k-preserved : goal.loop-k-preserved
loop-k-preserved c = c.loop-k.invariant ∙ absent_more _ _ c.loop-k-test.true c.if-present-k-ne0.false

pub returns : goal.returns
returns c = sym (c.loop-k.invariant ∙ absent-over _ _ c.loop-k-test.false)
