-- `text_encoder::writing::put_bytes` meets its contract: the bytes behind k owe at their position what all owe at the start. Assumes nothing.
use Prim.Native.Nat.{◌+◌, ◌-◌, ◌≤◌}
use mathlib.Core.Path.{◌≡◌}
use lib.ListN.{length, drop}
use lib.Seq.{sets}
use Rattle.text.specs.Text.{bytes_at}
use Rattle.text_encoder.proofs.writing.put_bytes.Given as goal

abbrev pub invariant-loop-k : goal.invariant-loop-k
invariant-loop-k l = (l.k ≤ l.n) × (length l.out ≡ length l.initial.out) × (sets l.initial.out l.at (bytes_at l.s l.i l.n) ≡ sets l.out (l.at + l.k) (drop l.k (bytes_at l.s l.i l.n)))

abbrev pub decreases-loop-k : goal.decreases-loop-k
decreases-loop-k l = l.n - l.k
