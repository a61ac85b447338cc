-- `delta_encoder::literal_len` meets its contract: the length owed is n and what the differences from j on take. Assumes nothing.
use Prim.Native.Nat.{◌+◌, ◌-◌, ◌*◌, ◌≤◌}
use mathlib.Core.Path.{◌≡◌}
use lib.ListN.{length}
use lib.Seq.{slice}
use Rattle.encoding.specs.Writer.{all_bytes}
use Rattle.delta_encoder.specs.Ahead.{diffs, last_before}
use Rattle.delta_decoder.specs.Difference.{i64_e}
use Rattle.delta_encoder.proofs.literal_len.Given as goal

abbrev pub invariant-loop-j : goal.invariant-loop-j
invariant-loop-j l = (l.i ≤ l.j)
    × (l.j ≤ l.k)
    × (l.n ≤ 10 * (l.j - l.i))
    × (l.l ≡ last_before l.values l.present l.j)
    × (length (all_bytes i64_e (slice l.i l.k (diffs l.values l.present))) ≡ l.n + length (all_bytes i64_e (slice l.j l.k (diffs l.values l.present))))

abbrev pub decreases-loop-j : goal.decreases-loop-j
decreases-loop-j l = l.k - l.j
