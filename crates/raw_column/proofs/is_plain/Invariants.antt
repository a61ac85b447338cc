-- `raw_column::is_plain` meets its contract: what is owed of the rows from i on is what was owed of all. Assumes nothing.
use mathlib.Core.Path.{◌≡◌}
use Prim.Native.Nat.{◌-◌, ◌≤◌}
use lib.ListN.{take, drop}
use Rattle.raw_column.specs.Table.{plain}
use Rattle.raw_column.proofs.is_plain.Given as goal

abbrev pub invariant-loop-i : goal.invariant-loop-i
invariant-loop-i l = (l.i ≤ l.n) × (plain (drop l.i (take l.n l.specs)) ≡ plain (take l.n l.specs))

abbrev pub decreases-loop-i : goal.decreases-loop-i
decreases-loop-i l = l.n - l.i
