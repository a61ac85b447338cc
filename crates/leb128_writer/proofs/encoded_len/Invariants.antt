-- `leb128_writer::encoded_len` meets its contract: what was counted and what is left make the whole length. Assumes nothing.
use mathlib.Core.Path.{◌≡◌}
use mathlib.Core.Bool.{Bool}
use Prim.Native.Nat.{◌+◌, ◌^◌, ◌<◌}
use lib.ListN.{length}
use Rattle.leb128.specs.Write.{encoded}
use Rattle.leb128_writer.proofs.encoded_len.Given as goal

abbrev pub invariant-loop-w : goal.invariant-loop-w
invariant-loop-w l = (l.w < 2 ^ 64) × ((neg : Bool) → l.n + length (encoded l.limit neg l.w) ≡ length (encoded l.limit neg l.v) + 1)

abbrev pub decreases-loop-w : goal.decreases-loop-w
decreases-loop-w l = l.w
