-- `raw_column::in_order` meets its contract: what is owed of the rows from i on is what was owed of all. Assumes nothing.
use mathlib.Core.Path.{◌≡◌}
use Prim.Native.Nat.{◌-◌, ◌≤◌}
use lib.ListN.{take, drop}
use Rattle.raw_column.specs.Table.{in_order}
use Rattle.raw_column.proofs.in_order.Given as goal

abbrev pub invariant-loop-i : goal.invariant-loop-i
invariant-loop-i l = (l.i ≤ l.n) × (in_order l.last (drop l.i (take l.n l.specs)) ≡ in_order 0 (take l.n l.specs))

abbrev pub decreases-loop-i : goal.decreases-loop-i
decreases-loop-i l = l.n - l.i
