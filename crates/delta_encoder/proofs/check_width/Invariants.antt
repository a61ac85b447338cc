-- `delta_encoder::check_width` meets its contract: near values owe nothing; else what the readings from k on owe is what all owe. Assumes nothing.
use Prim.Native.Nat.{◌-◌, ◌≤◌}
use mathlib.Core.Path.{◌≡◌}
use lib.IntN.{pos}
use lib.ListN.{length, drop}
use Rattle.encoding.specs.Given.{slot_list}
use Rattle.delta_encoder.specs.Differences.{differences, wide_at}
use Rattle.delta_encoder.proofs.check_width.Given as goal

abbrev pub invariant-loop-k : goal.invariant-loop-k
invariant-loop-k l = (l.k ≤ length l.values)
    × (wide_at 0 (differences (pos 0) (slot_list l.values l.present)) ≡ wide_at l.k (differences l.last (drop l.k (slot_list l.values l.present))))

abbrev pub decreases-loop-k : goal.decreases-loop-k
decreases-loop-k l = length l.values - l.k
