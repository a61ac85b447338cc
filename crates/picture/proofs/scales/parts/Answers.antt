-- `picture::scales::parts` meets its contract. Assumes nothing.
use Prim.Native.Nat.{◌-◌}
use native.Mathlib.Nat.{div-le_self}
use native.Mathlib.Omega.{arith}
use Rattle.picture.proofs.Marks.{parts_none, parts-some}
use borrow.Author.Rules.{rules}
use Rattle.picture.proofs.scales.parts.Goals as goal

pub returns-then-n-eq0 : goal.returns-then-n-eq0
returns-then-n-eq0 c = omega (arith, parts_none c.args.n c.args.size (search rules))

pub overflow_add-result : goal.overflow_add-result
overflow_add-result c = omega (arith, div-le_self (c.args.n - 1) c.args.size)

pub returns : goal.returns
returns c = omega (arith, parts-some c.args.n c.args.size (search rules))
