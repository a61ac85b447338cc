-- `picture::scales::per_place` meets its contract. Assumes nothing.
use native.Mathlib.Omega.{arith}
use Rattle.picture.proofs.Marks.{per-flat, per-wide}
use borrow.Author.Rules.{rules}
use Rattle.picture.proofs.scales.per_place.Goals as goal

pub returns-then-width-eq0 : goal.returns-then-width-eq0
returns-then-width-eq0 c = omega (arith, per-flat c.args.n c.args.width (search rules))

pub returns-then-per-eq0 : goal.returns-then-per-eq0
returns-then-per-eq0 c = omega (arith, per-wide c.args.n c.args.width (search rules))

pub returns : goal.returns
returns c = omega (arith, per-wide c.args.n c.args.width (search rules))
