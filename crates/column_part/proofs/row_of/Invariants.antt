-- `column_part::row_of` meets its contract: i rows passed, and the first from there on, are the first of all. Assumes nothing.
use mathlib.Core.Path.{◌≡◌}
use Prim.Native.Nat.{◌+◌, ◌-◌, ◌≤◌}
use lib.ListN.{take, drop}
use Rattle.column_part.specs.Part.{row_of}
use Rattle.column_part.proofs.row_of.Given as goal

abbrev pub invariant-loop-i : goal.invariant-loop-i
invariant-loop-i l = (l.i ≤ l.n) × (l.i + row_of l.spec (drop l.i (take l.n l.specs)) ≡ row_of l.spec (take l.n l.specs))

abbrev pub decreases-loop-i : goal.decreases-loop-i
decreases-loop-i l = l.n - l.i
