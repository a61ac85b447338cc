-- `tablet::files::fill` is safe and ends. The room keeps its length, and what was read lies in it; the measure is how much room is left. Assumes nothing.
use Rattle.std.proofs.Common.{◌≡◌, ◌-◌, ◌≤◌, length}
use Rattle.tablet.proofs.files.fill.Given as goal

abbrev pub invariant-loop-n : goal.invariant-loop-n
invariant-loop-n l = (length l.room ≡ length l.initial.room) × (l.n ≤ length l.room)

abbrev pub decreases-loop-n : goal.decreases-loop-n
decreases-loop-n l = length l.room - l.n
