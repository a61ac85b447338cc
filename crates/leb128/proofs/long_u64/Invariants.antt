-- `leb128::long_u64` meets its contract: the invariant of `Unsigned.antt`, with scale the power of 128 that the byte's index says. Assumes nothing.
use mathlib.Core.Path.{◌≡◌}
use Prim.Native.Nat.{◌≤◌, ◌<◌, ◌-◌, ◌^◌}
use lib.ListN.{length}
use Rattle.leb128.proofs.Unsigned.{Scanned}
use Rattle.leb128.proofs.long_u64.Given as goal

abbrev pub invariant-loop-i : goal.invariant-loop-i
invariant-loop-i l = (l.count ≤ 9) × (l.scale ≡ 128 ^ l.count) × (l.low < l.scale) × Scanned l.s l.at l.low l.scale l.count l.i

abbrev pub decreases-loop-i : goal.decreases-loop-i
decreases-loop-i l = length l.s - l.i
