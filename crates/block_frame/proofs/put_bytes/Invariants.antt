-- `block_frame::put_bytes` meets its contract: the bytes from i on owe at their position what all owe at the start. Assumes nothing.
use Prim.Native.Nat.{◌+◌, ◌≤◌}
use mathlib.Core.Path.{◌≡◌}
use lib.ListN.{length, drop}
use lib.Seq.{sets}
use Rattle.block_frame.proofs.put_bytes.Given as goal

abbrev pub invariant-loop-i : goal.invariant-loop-i
invariant-loop-i l = (l.i ≤ length l.src) × (length l.out ≡ length l.initial.out) × (sets l.initial.out l.at l.src ≡ sets l.out (l.at + l.i) (drop l.i l.src))
