-- `delta_encoder::put_literal` meets its contract: what the differences from j on owe at the position is what all owe at the start. Assumes nothing.
use Prim.Native.Nat.{◌+◌, ◌-◌, ◌≤◌}
use mathlib.Core.Path.{◌≡◌}
use lib.ListN.{length}
use lib.Seq.{sets, slice}
use Rattle.encoding.specs.Writer.{all_bytes}
use Rattle.delta_encoder.specs.Ahead.{diffs, last_before}
use Rattle.delta_decoder.specs.Difference.{i64_e}
use Rattle.delta_encoder.proofs.put_literal.Given as goal

abbrev pub invariant-loop-j : goal.invariant-loop-j
invariant-loop-j l = (l.i ≤ l.j)
    × (l.j ≤ l.k)
    × (length l.out ≡ length l.initial.out)
    × (l.l ≡ last_before l.values l.present l.j)
    × (l.at + length (all_bytes i64_e (slice l.j l.k (diffs l.values l.present))) ≡ l.from + length (all_bytes i64_e (slice l.i l.k (diffs l.values l.present))))
    × (sets l.initial.out l.from (all_bytes i64_e (slice l.i l.k (diffs l.values l.present))) ≡ sets l.out l.at (all_bytes i64_e (slice l.j l.k (diffs l.values l.present))))

abbrev pub decreases-loop-j : goal.decreases-loop-j
decreases-loop-j l = l.k - l.j
