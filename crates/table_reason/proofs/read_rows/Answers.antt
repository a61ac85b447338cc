-- `table_reason::read_rows` meets its contract: `Reading` holds at the loop's head, and each way out is a law of it. Assumes nothing.
use Rattle.table_reason.proofs.Reading.{reading-start, reading-bad, reading-turn, reading-out}
use Rattle.table_reason.proofs.read_rows.Goals as goal

pub loop-i-init : goal.loop-i-init
loop-i-init c = reading-start _ _ _

pub returns-in-Err : goal.returns-in-Err
returns-in-Err c = reading-bad c.loop-i.invariant c.loop-i-test.true c.in-Err.ensures

pub loop-i-preserved : goal.loop-i-preserved
loop-i-preserved c = reading-turn c.loop-i.invariant c.loop-i-test.true c.in-Ok.row c.requires c.in-Ok.ensures

pub returns : goal.returns
returns c = reading-out c.loop-i.invariant c.loop-i-test.false
