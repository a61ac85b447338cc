-- `leb128_writer::put_digits` meets its contract: what is left to store, at its place, makes the whole. Assumes nothing.
use mathlib.Core.Path.{◌≡◌}
use Prim.Native.Nat.{◌+◌, ◌^◌, ◌<◌, ◌≤◌}
use lib.ListN.{length}
use lib.Seq.{sets}
use Rattle.leb128.specs.Write.{encoded}
use Rattle.leb128_writer.proofs.put_digits.Given as goal

abbrev pub invariant-loop-w : goal.invariant-loop-w
invariant-loop-w l = (length l.out ≡ length l.initial.out) × (l.w < 2 ^ 64) × (l.i + length (encoded l.limit l.neg l.w) ≤ length l.initial.out)
    × (sets l.initial.out l.at (encoded l.limit l.neg l.v) ≡ sets l.out l.i (encoded l.limit l.neg l.w))

abbrev pub decreases-loop-w : goal.decreases-loop-w
decreases-loop-w l = l.w
