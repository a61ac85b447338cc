-- `given_list::any_present` meets its contract: what is owed from k on is what is owed of all. Assumes nothing.
use mathlib.Core.Path.{refl, sym, ◌∙◌}
use native.Mathlib.Omega.{arith}
use Rattle.encoding.proofs.Presence.{any_none, any_some, any-end}
use Rattle.given_list.proofs.any_present.Goals as goal

pub loop-k-init : goal.loop-k-init
loop-k-init c = (omega arith, refl)

pub bounds-present-k : goal.bounds-present-k
bounds-present-k c = omega arith

pub returns-then-present-k-ne0 : goal.returns-then-present-k-ne0
returns-then-present-k-ne0 c = sym (c.loop-k.invariant.1 ∙ any_some _ _ c.loop-k-test.true c.if-present-k-ne0.true)

pub overflow_add-k : goal.overflow_add-k
overflow_add-k c = omega arith

pub loop-k-smaller : goal.loop-k-smaller
loop-k-smaller c = omega arith

pub loop-k-preserved : goal.loop-k-preserved
loop-k-preserved c = (omega arith, c.loop-k.invariant.1 ∙ any_none _ _ c.loop-k-test.true c.if-present-k-ne0.false)

pub returns : goal.returns
returns c = sym (c.loop-k.invariant.1 ∙ any-end _ _ c.loop-k-test.false)
