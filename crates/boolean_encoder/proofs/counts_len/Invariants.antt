-- `boolean_encoder::counts_len` meets its contract: the run that k is in, and the bytes of the counts before it. Assumes nothing.
use Prim.Native.Nat.{◌-◌, ◌≤◌}
use lib.ListN.{length}
use Rattle.boolean_encoder.proofs.Counting.{Running}
use Rattle.boolean_encoder.proofs.counts_len.Given as goal

abbrev pub invariant-loop-k-2 : goal.invariant-loop-k-2
invariant-loop-k-2 l = Running l.values l.n l.i l.flag l.k × (l.stop ≤ length l.values)

abbrev pub decreases-loop-k-2 : goal.decreases-loop-k-2
decreases-loop-k-2 l = l.stop - l.k

abbrev pub invariant-loop-k : goal.invariant-loop-k
invariant-loop-k l = Running l.values l.n l.i l.flag l.k

abbrev pub decreases-loop-k : goal.decreases-loop-k
decreases-loop-k l = length l.values - l.k
