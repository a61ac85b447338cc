-- `picture::scales::base_for` meets its contract. Assumes nothing.
use native.Mathlib.Omega.{arith}
use Rattle.picture.proofs.Marks.{base-mark, base-none}
use borrow.Author.Rules.{rules}
use Rattle.picture.proofs.scales.base_for.Goals as goal

pub returns-then-past-low : goal.returns-then-past-low
returns-then-past-low c = let a = c.args in omega (arith, base-mark a.low a.step a.origin (search rules))

pub returns : goal.returns
returns c = let a = c.args in omega (arith, base-none a.low a.step a.origin (search rules))
