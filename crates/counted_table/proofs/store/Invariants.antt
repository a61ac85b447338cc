-- `counted_table::store` meets its contract: the counts of so many rows as they were lent, the rest still 0. Assumes nothing.
use mathlib.Core.Path.{◌≡◌}
use Prim.Native.Nat.{◌-◌, ◌≤◌}
use lib.ListN.{take}
use Rattle.raw_column.specs.Rows.{pad}
use Rattle.counted_table.proofs.store.Given as goal

abbrev pub invariant-loop-i : goal.invariant-loop-i
invariant-loop-i l = (l.i ≤ l.n) × (l.counts ≡ pad (take l.i l.lent.counts)) × (l.known ≡ pad (take l.i l.lent.known))

abbrev pub decreases-loop-i : goal.decreases-loop-i
decreases-loop-i l = l.n - l.i
