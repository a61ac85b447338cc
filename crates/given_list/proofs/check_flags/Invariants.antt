-- `given_list::check_flags` meets its contract: where the largest byte is not above 1 none is bad, and in the loop what is owed from k on is what is owed of all. Assumes nothing.
use Prim.Native.Nat.{◌-◌, ◌≤◌}
use mathlib.Core.Path.{◌≡◌}
use lib.ListN.{length, drop}
use Rattle.encoding.specs.Given.{bad_flag}
use Rattle.given_list.proofs.check_flags.Given as goal

abbrev pub invariant-loop-k : goal.invariant-loop-k
invariant-loop-k l = (l.k ≤ length l.present) × (bad_flag 0 l.present ≡ bad_flag l.k (drop l.k l.present))

abbrev pub decreases-loop-k : goal.decreases-loop-k
decreases-loop-k l = length l.present - l.k
