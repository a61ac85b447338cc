-- `boolean_encoder::turn_end` meets its contract: the end owed at k is the end owed at i. Assumes nothing.
use Prim.Native.Nat.{◌+◌, ◌-◌, ◌≤◌}
use mathlib.Core.Path.{◌≡◌}
use lib.ListN.{length, drop}
use Rattle.boolean_encoder.specs.Ahead.{alike}
use Rattle.boolean_encoder.proofs.turn_end.Given as goal

abbrev pub invariant-loop-k : goal.invariant-loop-k
invariant-loop-k l = (l.i + alike l.flag (drop l.i l.values) ≡ l.k + alike l.flag (drop l.k l.values)) × (l.k ≤ length l.values) × (l.stop ≤ length l.values)

abbrev pub decreases-loop-k : goal.decreases-loop-k
decreases-loop-k l = l.stop - l.k
