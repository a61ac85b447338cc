-- `delta_encoder::repeat_end` meets its contract: up to k, the stretches are those of equal differences before what follows. Assumes nothing.
use Prim.Native.Nat.{◌-◌, ◌≤◌, ◌<◌}
use mathlib.Core.Path.{◌≡◌}
use lib.IntN.{pos}
use lib.ListN.{length, get_or}
use Rattle.encoding.specs.Ahead.{from, repeats}
use Rattle.delta_decoder.specs.Difference.{same_z}
use Rattle.delta_encoder.specs.Ahead.{diffs}
use Rattle.delta_encoder.proofs.repeat_end.Given as goal

abbrev pub invariant-loop-k : goal.invariant-loop-k
invariant-loop-k l = (l.i < l.k)
    × (l.k ≤ length l.values)
    × (get_or l.present (l.k - 1) 0 ≡ 0 → ⊥)
    × (from same_z (diffs l.values l.present) l.present l.i ≡ repeats same_z (l.k - l.i) (get_or (diffs l.values l.present) l.i (pos 0)) (from same_z (diffs l.values l.present) l.present l.k))

abbrev pub decreases-loop-k : goal.decreases-loop-k
decreases-loop-k l = length l.values - l.k
