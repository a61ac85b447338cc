-- `rle_range::put_new_u64` meets its contract: a turn stores one more of the new readings. Assumes nothing.
use Prim.Native.Nat.{◌-◌, ◌≤◌}
use mathlib.Core.List.{map}
use lib.ListN.{length}
use Rattle.encoding.specs.Given.{slot_list}
use Rattle.slots.proofs.Moves.{Stored}
use Rattle.splice.specs.Contract.{slot_in}
use Rattle.rle_range.proofs.put_new_u64.Given as goal

abbrev pub invariant-loop-i : goal.invariant-loop-i
invariant-loop-i l = (l.i ≤ length l.new) × Stored l.initial.values l.at (map (slot_in 0) (slot_list l.new l.new_present)) l.i l.values

abbrev pub decreases-loop-i : goal.decreases-loop-i
decreases-loop-i l = length l.new - l.i
