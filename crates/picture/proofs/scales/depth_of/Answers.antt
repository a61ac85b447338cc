-- `picture::scales::depth_of` meets its contract: a row that is too far down has the greatest depth. Assumes nothing.
use Prim.Native.Nat.{◌-◌}
use native.Mathlib.Omega.{arith}
use Rattle.picture.proofs.Marks.{whole, depth-flat, depth-fits, depth-past}
use borrow.Author.Rules.{rules}
use Rattle.picture.proofs.scales.depth_of.Goals as goal

pub returns-then-step-eq0 : goal.returns-then-step-eq0
returns-then-step-eq0 c = let a = c.args in omega (arith, depth-flat a.row a.base a.step (search rules) (search rules))

pub overflow_mul-result : goal.overflow_mul-result
overflow_mul-result c =
    let a = c.args in
    omega (arith, whole a.row a.step (18446744073709551615 - a.base) (omega arith) (search rules))

pub overflow_add-result : goal.overflow_add-result
overflow_add-result c =
    let a = c.args in
    omega (arith, whole a.row a.step (18446744073709551615 - a.base) (omega arith) (search rules))

pub returns-then-r-base : goal.returns-then-r-base
returns-then-r-base c =
    let a = c.args in
    omega (
      arith,
      depth-fits a.row a.base a.step
          (omega (arith, whole a.row a.step (18446744073709551615 - a.base) (omega arith) (search rules))),
    )

pub returns : goal.returns
returns c = let a = c.args in omega (arith, depth-past a.row a.base a.step (omega arith) (search rules))
