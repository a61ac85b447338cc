-- `rle_encoder::literal_len` meets its contract: the length owed is n and what the values from j on take. Assumes nothing.
use Prim.Native.Nat.{◌+◌, ◌-◌, ◌*◌, ◌≤◌}
use mathlib.Core.Path.{◌≡◌}
use lib.ListN.{length}
use lib.Seq.{slice}
use Rattle.encoding.specs.Writer.{all_bytes}
use Rattle.rle_decoder.specs.Word.{u64_e}
use Rattle.rle_encoder.proofs.literal_len.Given as goal

abbrev pub invariant-loop-j : goal.invariant-loop-j
invariant-loop-j l = (l.i ≤ l.j)
    × (l.j ≤ l.k)
    × (l.n ≤ 10 * (l.j - l.i))
    × (length (all_bytes u64_e (slice l.i l.k l.values)) ≡ l.n + length (all_bytes u64_e (slice l.j l.k l.values)))

abbrev pub decreases-loop-j : goal.decreases-loop-j
decreases-loop-j l = l.k - l.j
