-- `table_reason::read_rows` meets its contract: `Reading` holds at the loop's head, and each way out is a law of it. Assumes nothing.
use Rattle.table_reason.proofs.Reading.{Reading}
use Rattle.table_reason.proofs.read_rows.Given as goal

abbrev pub invariant-loop-i : goal.invariant-loop-i
invariant-loop-i l = Reading l.block l.at l.n l.specs l.lens l.i l.p
