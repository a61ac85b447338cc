-- `block_frame::put_rows` meets its contract: the rows from here on owe at the position what all owe at the start. Assumes nothing.
use Rattle.std.proofs.Common.{◌≡◌, ◌+◌, length}
use lib.Seq.{sets}
use Rattle.block_frame.proofs.Storing.{rows_from}
use Rattle.block_frame.proofs.put_rows.Given as goal

abbrev pub invariant-loop-spec : goal.invariant-loop-spec
invariant-loop-spec l = (length l.out ≡ length l.initial.out)
    × (l.p + length (rows_from l.specs l.lens (length l.yielded)) ≡ l.at + length (rows_from l.specs l.lens 0))
    × (sets l.initial.out l.at (rows_from l.specs l.lens 0) ≡ sets l.out l.p (rows_from l.specs l.lens (length l.yielded)))
