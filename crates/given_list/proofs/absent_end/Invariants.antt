-- `given_list::absent_end` meets its contract: the end owed at k is the end owed at i. Assumes nothing.
use Prim.Native.Nat.{◌+◌, ◌-◌}
use mathlib.Core.Path.{◌≡◌}
use lib.ListN.{length, drop}
use Rattle.encoding.specs.Flags.{zeros}
use Rattle.given_list.proofs.absent_end.Given as goal

abbrev pub invariant-loop-k : goal.invariant-loop-k
invariant-loop-k l = l.i + zeros (drop l.i l.present) ≡ l.k + zeros (drop l.k l.present)

abbrev pub decreases-loop-k : goal.decreases-loop-k
decreases-loop-k l = length l.present - l.k
