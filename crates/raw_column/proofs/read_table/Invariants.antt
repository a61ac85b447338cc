-- `raw_column::read_table` meets its contract: `Filling` holds at the loop's head, and each way out is a law of it. Assumes nothing.
use Prim.Native.Nat.{◌-◌}
use Rattle.raw_column.proofs.Opening.{Filling}
use Rattle.raw_column.proofs.read_table.Given as goal

abbrev pub invariant-loop-i : goal.invariant-loop-i
invariant-loop-i l = Filling l.block l.initial.p l.n l.t l.p l.total l.i

abbrev pub decreases-loop-i : goal.decreases-loop-i
decreases-loop-i l = l.n - l.i
