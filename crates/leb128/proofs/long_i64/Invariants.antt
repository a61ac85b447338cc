-- `leb128::long_i64` meets its contract: the invariant of `Scanning.antt`, with scale the power of 128 that the byte's index says; the ways out of `Signed.antt`. Assumes nothing.
use mathlib.Core.Path.{◌≡◌}
use Prim.Native.Nat.{◌+◌, ◌≤◌, ◌<◌, ◌-◌, ◌^◌}
use lib.ListN.{length, drop}
use Rattle.leb128.specs.Digits.{digits}
use Rattle.leb128.proofs.Scanning.{onto}
use Rattle.leb128.proofs.long_i64.Given as goal

abbrev pub invariant-loop-i : goal.invariant-loop-i
invariant-loop-i l = (l.n ≤ 9) × (0 < l.n) × (l.i ≡ l.at + l.n) × (l.scale ≡ 128 ^ l.n) × (l.low < l.scale) × (digits 0 0 (drop l.at l.s) ≡ onto l.low l.scale l.n (digits l.n l.prev (drop l.i l.s)))

abbrev pub decreases-loop-i : goal.decreases-loop-i
decreases-loop-i l = length l.s - l.i
