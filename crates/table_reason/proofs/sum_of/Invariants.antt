-- `table_reason::sum_of` meets its contract: what was added up and the lengths from here on are all of them. Assumes nothing.
use Rattle.std.proofs.Common.{◌≡◌, ◌+◌, ◌*◌, ◌^◌, ◌≤◌, drop}
use Rattle.raw_column.specs.Table.{sum}
use Rattle.table_reason.proofs.sum_of.Given as goal

abbrev pub invariant-loop-l : goal.invariant-loop-l
invariant-loop-l l = (l.high ≤ l.l-index) × (l.high * 2 ^ 64 + l.low + sum (drop l.l-index l.lens) ≡ sum l.lens)
