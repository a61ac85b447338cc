-- `block_frame::rows_len` meets its contract: the length owed is k and what the rows from here on take. Assumes nothing.
use Rattle.std.proofs.Common.{◌≡◌, ◌+◌, ◌*◌, ◌≤◌, length}
use Rattle.block_frame.proofs.Storing.{rows_from}
use Rattle.block_frame.proofs.rows_len.Given as goal

abbrev pub invariant-loop-spec : goal.invariant-loop-spec
invariant-loop-spec l =
    (l.k ≤ 20 * length l.yielded) × (length (rows_from l.specs l.lens 0) ≡ l.k + length (rows_from l.specs l.lens (length l.yielded)))
