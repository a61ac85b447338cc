-- `given_list::check_flags` meets its contract: where the largest byte is not above 1 none is bad, and in the loop what is owed from k on is what is owed of all. Assumes nothing.
use mathlib.Core.Path.{refl, sym, ◌∙◌}
use native.Mathlib.Omega.{arith}
use Rattle.encoding.proofs.Presence.{flag-good, flag-bad, flag-end}
use Rattle.given_list.proofs.check_flags.Goals as goal

pub returns-then-largest-le1 : goal.returns-then-largest-le1
returns-then-largest-le1 c = sym (c.largest.ensures c.if-largest-le1.true)

pub loop-k-init : goal.loop-k-init
loop-k-init c = (omega arith, refl)

pub bounds-present-k : goal.bounds-present-k
bounds-present-k c = omega arith

pub returns-then-present-k-gt1 : goal.returns-then-present-k-gt1
returns-then-present-k-gt1 c = sym (c.loop-k.invariant.1 ∙ flag-bad _ _ c.loop-k-test.true c.if-present-k-gt1.true)

pub overflow_add-k : goal.overflow_add-k
overflow_add-k c = omega arith

pub loop-k-smaller : goal.loop-k-smaller
loop-k-smaller c = omega arith

pub loop-k-preserved : goal.loop-k-preserved
loop-k-preserved c = (omega arith, c.loop-k.invariant.1 ∙ flag-good _ _ c.loop-k-test.true c.if-present-k-gt1.false)

pub returns : goal.returns
returns c = sym (c.loop-k.invariant.1 ∙ flag-end _ _ c.loop-k-test.false)
