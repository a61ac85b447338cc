-- `rle_encoder::repeat_end` meets its contract: up to k, the stretches are those of equal values before what follows. Assumes nothing.
use Prim.Native.Nat.{◌-◌, ◌≤◌, ◌<◌}
use mathlib.Core.Path.{◌≡◌}
use lib.Dec.{eqb}
use lib.ListN.{length, get_or}
use Rattle.encoding.specs.Ahead.{from, repeats}
use Rattle.rle_encoder.proofs.repeat_end.Given as goal

abbrev pub invariant-loop-k : goal.invariant-loop-k
invariant-loop-k l = (l.i < l.k) × (l.k ≤ length l.values) × (from eqb l.values l.present l.i ≡ repeats eqb (l.k - l.i) (get_or l.values l.i 0) (from eqb l.values l.present l.k))

abbrev pub decreases-loop-k : goal.decreases-loop-k
decreases-loop-k l = length l.values - l.k
