-- `picture::scales::past_mark` meets its contract: a remainder is less than the step. Assumes nothing.
use native.Mathlib.Nat.{mod-lt}
use native.Mathlib.Omega.{arith}
use Rattle.picture.proofs.Marks.{past-within, past-around}
use borrow.Author.Rules.{rules}
use Rattle.picture.proofs.scales.past_mark.Goals as goal

pub returns-then-z-l : goal.returns-then-z-l
returns-then-z-l c = let a = c.args in omega (arith, past-within a.low a.step a.origin (search rules))

pub overflow_sub-result-2 : goal.overflow_sub-result-2
overflow_sub-result-2 c = let a = c.args in omega (arith, mod-lt a.origin {m = a.step} (search rules))

pub overflow_add-result : goal.overflow_add-result
overflow_add-result c = let a = c.args in omega (arith, mod-lt a.origin {m = a.step} (search rules))

pub returns : goal.returns
returns c = let a = c.args in omega (arith, past-around a.low a.step a.origin (search rules))
