-- `picture::scales::row_of` meets its contract. Assumes nothing.
use native.Mathlib.Omega.{arith}
use Rattle.picture.proofs.Marks.{row-flat, row_first, row_below}
use borrow.Author.Rules.{rules}
use Rattle.picture.proofs.scales.row_of.Goals as goal

pub returns-then-step-eq0 : goal.returns-then-step-eq0
returns-then-step-eq0 c = let a = c.args in omega (arith, row-flat a.value a.base a.step (search rules))

pub returns-then-value-base : goal.returns-then-value-base
returns-then-value-base c = let a = c.args in omega (arith, row_first a.value a.base a.step (search rules) (search rules))

pub returns : goal.returns
returns c = let a = c.args in omega (arith, row_below a.value a.base a.step (search rules))
