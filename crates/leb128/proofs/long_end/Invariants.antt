-- `leb128::long_end` meets its contract: the invariant of `Unsigned.antt`. Assumes nothing.
use Prim.Native.Nat.{◌≤◌, ◌-◌}
use lib.ListN.{length}
use Rattle.leb128.proofs.Unsigned.{Passing}
use Rattle.leb128.proofs.long_end.Given as goal

abbrev pub invariant-loop-i : goal.invariant-loop-i
invariant-loop-i l = (l.passed ≤ 9) × Passing l.s l.at l.passed l.i

abbrev pub decreases-loop-i : goal.decreases-loop-i
decreases-loop-i l = length l.s - l.i
