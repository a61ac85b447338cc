-- `text_encoder::range::clear` meets its contract: a turn clears one slot more of each slice. Assumes nothing.
use Prim.Native.Nat.{◌-◌, ◌≤◌}
use mathlib.Core.Path.{◌≡◌}
use lib.ListN.{length, replicate}
use Rattle.slots.proofs.Moves.{Stored}
use Rattle.text_encoder.proofs.range.clear.Given as goal

abbrev pub invariant-loop-i : goal.invariant-loop-i
invariant-loop-i l = (l.from ≤ l.i) × (l.i ≤ l.to) × (l.to ≤ length l.initial.starts) × (length l.initial.lens ≡ length l.initial.starts) × (length l.initial.present ≡ length l.initial.starts)
    × Stored l.initial.starts l.from (replicate (l.to - l.from) 0) (l.i - l.from) l.starts
    × Stored l.initial.lens l.from (replicate (l.to - l.from) 0) (l.i - l.from) l.lens
    × Stored l.initial.present l.from (replicate (l.to - l.from) 0) (l.i - l.from) l.present

abbrev pub decreases-loop-i : goal.decreases-loop-i
decreases-loop-i l = l.to - l.i
