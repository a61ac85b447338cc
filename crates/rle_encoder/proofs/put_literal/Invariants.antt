-- `rle_encoder::put_literal` meets its contract: what the values from j on owe at the position is what all owe at the start. Assumes nothing.
use Prim.Native.Nat.{◌+◌, ◌-◌, ◌≤◌}
use mathlib.Core.Path.{◌≡◌}
use lib.ListN.{length}
use lib.Seq.{sets, slice}
use Rattle.encoding.specs.Writer.{all_bytes}
use Rattle.rle_decoder.specs.Word.{u64_e}
use Rattle.rle_encoder.proofs.put_literal.Given as goal

abbrev pub invariant-loop-j : goal.invariant-loop-j
invariant-loop-j l = (l.i ≤ l.j)
    × (l.j ≤ l.k)
    × (length l.out ≡ length l.initial.out)
    × (l.at + length (all_bytes u64_e (slice l.j l.k l.values)) ≡ l.from + length (all_bytes u64_e (slice l.i l.k l.values)))
    × (sets l.initial.out l.from (all_bytes u64_e (slice l.i l.k l.values)) ≡ sets l.out l.at (all_bytes u64_e (slice l.j l.k l.values)))

abbrev pub decreases-loop-j : goal.decreases-loop-j
decreases-loop-j l = l.k - l.j
