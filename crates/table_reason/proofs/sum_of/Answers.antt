-- `table_reason::sum_of` meets its contract: what was added up and the lengths from here on are all of them. Assumes nothing.
use native.Mathlib.Omega.{arith}
use Rattle.table_reason.proofs.Firsts.{sum-on, sum-end}
use Rattle.table_reason.proofs.sum_of.Goals as goal
use Rattle.table_reason.proofs.sum_of.Goals.{then-sum-low, else-sum-low}

pub loop-l-preserved : goal.loop-l-preserved
loop-l-preserved c =
    let i = c.loop-l.l-index in
    let on = sum-on c.args.lens.now i c.loop-l-test.true in
    let fits = c.type_inv.lens i in
    (elim c.if-sum-low.branch [ then-sum-low w ↦ omega (arith, on, fits) | else-sum-low w ↦ omega (arith, on, fits) ])

pub returns : goal.returns
returns c = omega (arith, sum-end c.args.lens.now c.loop-l.l-index c.loop-l-test.false, c.loop-l.invariant.1)
