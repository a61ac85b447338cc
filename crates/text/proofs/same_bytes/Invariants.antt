-- `text::same_bytes` meets its contract: the comparison owed at the start is owed behind k bytes. Assumes nothing.
use Prim.Native.Nat.{◌-◌}
use mathlib.Core.Path.{◌≡◌}
use lib.ListN.{length, drop}
use Rattle.text.specs.Text.{same_bytes}
use Rattle.text.proofs.same_bytes.Given as goal

abbrev pub invariant-loop-k : goal.invariant-loop-k
invariant-loop-k l = same_bytes l.v l.w ≡ same_bytes (drop l.k l.v) (drop l.k l.w)

abbrev pub decreases-loop-k : goal.decreases-loop-k
decreases-loop-k l = length l.v - l.k
