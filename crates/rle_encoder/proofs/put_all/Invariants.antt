-- `rle_encoder::put_all` meets its contract: what the stretches from i on owe at the position is what all owe at 0. Assumes nothing.
use Prim.Native.Nat.{◌+◌, ◌-◌, ◌≤◌}
use mathlib.Core.Path.{◌≡◌}
use lib.ListN.{length}
use lib.Seq.{sets}
use Rattle.encoding.specs.Ahead.{bytes_from}
use Rattle.rle_decoder.specs.Word.{u64_e}
use Rattle.rle_encoder.proofs.put_all.Given as goal

abbrev pub invariant-loop-i : goal.invariant-loop-i
invariant-loop-i l = (l.i ≤ length l.values)
    × (length l.out ≡ length l.initial.out)
    × (l.at + length (bytes_from u64_e l.values l.present l.i) ≤ length l.initial.out)
    × (sets l.initial.out 0 (bytes_from u64_e l.values l.present 0) ≡ sets l.out l.at (bytes_from u64_e l.values l.present l.i))

abbrev pub decreases-loop-i : goal.decreases-loop-i
decreases-loop-i l = length l.values - l.i
