-- `column_part::row_of` meets its contract: i rows passed, and the first from there on, are the first of all. Assumes nothing.
use Prim.Native.Nat.{zero-le}
use native.Mathlib.Omega.{arith}
use Rattle.column_part.proofs.Parts.{row-hit, row-miss, row-end}
use Rattle.column_part.proofs.row_of.Goals as goal

pub loop-i-init : goal.loop-i-init
loop-i-init c = (zero-le, omega arith)

pub returns-then-specs-i : goal.returns-then-specs-i
returns-then-specs-i c =
    let loop = c.loop-i in
    let a = c.args in
    omega (arith, row-hit a.spec a.specs.now a.n loop.i (omega arith) (omega arith) c.if-specs-i.true, loop.invariant.1)

pub loop-i-preserved : goal.loop-i-preserved
loop-i-preserved c =
    let loop = c.loop-i in
    let a = c.args in
    (omega arith, omega (arith, row-miss a.spec a.specs.now a.n loop.i (omega arith) (omega arith) c.if-specs-i.false, loop.invariant.1))

pub returns : goal.returns
returns c =
    let a = c.args in
    omega (arith, row-end a.spec a.specs.now a.n c.loop-i.i c.loop-i-test.false, c.loop-i.invariant.1)
