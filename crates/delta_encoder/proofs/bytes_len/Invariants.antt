-- `delta_encoder::bytes_len` meets its contract: the length owed is n and what the stretches from i on take. Assumes nothing.
use Prim.Native.Nat.{◌+◌, ◌-◌, ◌≤◌}
use mathlib.Core.Path.{◌≡◌}
use lib.ListN.{length}
use Rattle.encoding.specs.Ahead.{bytes_from}
use Rattle.delta_encoder.specs.Ahead.{diffs, last_before}
use Rattle.delta_decoder.specs.Difference.{i64_e}
use Rattle.delta_encoder.proofs.bytes_len.Given as goal

abbrev pub invariant-loop-i : goal.invariant-loop-i
invariant-loop-i l = (l.i ≤ length l.values)
    × (l.last ≡ last_before l.values l.present l.i)
    × (l.n + length (bytes_from i64_e (diffs l.values l.present) l.present l.i) ≡ length (bytes_from i64_e (diffs l.values l.present) l.present 0))

abbrev pub decreases-loop-i : goal.decreases-loop-i
decreases-loop-i l = length l.values - l.i
