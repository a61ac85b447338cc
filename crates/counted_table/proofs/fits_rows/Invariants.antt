-- `counted_table::fits_rows` meets its contract: so many rows agree, and each way out is a law. Assumes nothing.
use mathlib.Core.Path.{◌≡◌}
use mathlib.Core.Bool.{true}
use Prim.Native.Nat.{◌-◌, ◌≤◌}
use Rattle.counted_table.specs.Counts.{agree_to}
use Rattle.counted_table.proofs.fits_rows.Given as goal

abbrev pub invariant-loop-i : goal.invariant-loop-i
invariant-loop-i l = (l.i ≤ l.n) × (agree_to l.i l.lent l.read ≡ true)

abbrev pub decreases-loop-i : goal.decreases-loop-i
decreases-loop-i l = l.n - l.i
