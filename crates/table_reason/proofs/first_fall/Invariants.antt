-- `table_reason::first_fall` meets its contract: i rows passed, and the first from there on, are the first of all. Assumes nothing.
use Rattle.std.proofs.Common.{◌≡◌, ◌+◌, drop}
use Rattle.table_reason.specs.TableReason.{first_fall}
use Rattle.table_reason.proofs.first_fall.Given as goal

abbrev pub invariant-loop-i : goal.invariant-loop-i
invariant-loop-i l = l.i + first_fall l.last (drop l.i l.specs) ≡ first_fall 0 l.specs
