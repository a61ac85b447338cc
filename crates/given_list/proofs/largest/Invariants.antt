-- `given_list::largest` meets its contract: where none of the bytes before j is above 1, what is owed from j on is what is owed of all. Assumes
-- nothing.
use Prim.Native.Nat.{◌-◌, ◌≤◌}
use mathlib.Core.Path.{◌≡◌}
use lib.ListN.{length, drop}
use Rattle.encoding.specs.Given.{bad_flag}
use Rattle.given_list.proofs.largest.Given as goal

abbrev pub invariant-loop-j : goal.invariant-loop-j
invariant-loop-j l = (l.j ≤ length l.present) × (l.most ≤ 1 → bad_flag 0 l.present ≡ bad_flag l.j (drop l.j l.present))

abbrev pub decreases-loop-j : goal.decreases-loop-j
decreases-loop-j l = length l.present - l.j
