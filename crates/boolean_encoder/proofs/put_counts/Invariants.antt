-- `boolean_encoder::put_counts` meets its contract: what is still to be stored are the counts from i on. Assumes nothing.
use Prim.Native.Nat.{◌+◌, ◌≤◌}
use mathlib.Core.Path.{◌≡◌}
use lib.ListN.{length}
use lib.Seq.{sets}
use Rattle.boolean_encoder.specs.Writer.{bool_bytes}
use Rattle.boolean_encoder.proofs.Counting.{bytes_from, Stood, to_go}
use Rattle.boolean_encoder.proofs.put_counts.Given as goal

abbrev pub invariant-loop-i : goal.invariant-loop-i
invariant-loop-i l = Stood l.values l.i l.flag
    × (length l.out ≡ length l.initial.out)
    × (l.at + length (bytes_from l.values l.i l.flag) ≤ length l.initial.out)
    × (sets l.initial.out 0 (bool_bytes l.values) ≡ sets l.out l.at (bytes_from l.values l.i l.flag))

abbrev pub decreases-loop-i : goal.decreases-loop-i
decreases-loop-i l = to_go l.values l.i l.flag
