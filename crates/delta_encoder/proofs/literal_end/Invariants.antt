-- `delta_encoder::literal_end` meets its contract: up to j, the differences equal no neighbour. Assumes nothing.
use Prim.Native.Nat.{◌-◌, ◌≤◌, ◌<◌}
use mathlib.Core.Path.{◌≡◌}
use lib.IntN.{pos}
use lib.ListN.{length, get_or}
use Rattle.encoding.specs.Ahead.{LiteralTo}
use Rattle.delta_encoder.specs.Ahead.{diffs}
use Rattle.delta_decoder.specs.Difference.{same_z}
use Rattle.delta_encoder.proofs.literal_end.Given as goal

abbrev pub invariant-loop-j : goal.invariant-loop-j
invariant-loop-j l = (l.i < l.j) × (l.j ≤ length l.values) × (get_or l.present (l.j - 1) 0 ≡ 0 → ⊥) × LiteralTo same_z (pos 0) (diffs l.values l.present) l.present l.i l.j

abbrev pub decreases-loop-j : goal.decreases-loop-j
decreases-loop-j l = length l.values - l.j
