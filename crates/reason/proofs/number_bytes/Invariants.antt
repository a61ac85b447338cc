-- `reason::number_bytes` meets its contract: the invariant of `NumberBytes.antt`. Assumes nothing.
use mathlib.Core.Path.{◌≡◌}
use Prim.Native.Nat.{◌+◌, ◌-◌, ◌≤◌}
use lib.ListN.{length, drop}
use Rattle.reason.specs.Reason.{number_bytes}
use Rattle.reason.proofs.number_bytes.Given as goal

abbrev pub invariant-loop-i : goal.invariant-loop-i
invariant-loop-i l = (l.n ≤ 9) × (number_bytes 0 (drop l.at l.s) ≡ l.n + number_bytes l.n (drop l.i l.s))

abbrev pub decreases-loop-i : goal.decreases-loop-i
decreases-loop-i l = length l.s - l.i
