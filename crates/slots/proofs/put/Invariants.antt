-- `slots::put` meets its contract: a turn stores one more of the new elements. Assumes nothing.
use Prim.Native.Nat.{◌≤◌}
use lib.ListN.{length}
use Rattle.slots.proofs.Moves.{Stored}
use Rattle.slots.proofs.put.Given as goal

abbrev pub invariant-loop-i : goal.invariant-loop-i
invariant-loop-i g l = (l.i ≤ length l.new) × Stored l.initial.s l.at l.new l.i l.s
