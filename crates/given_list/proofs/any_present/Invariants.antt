-- `given_list::any_present` meets its contract: what is owed from k on is what is owed of all. Assumes nothing.
use Prim.Native.Nat.{◌-◌, ◌≤◌}
use mathlib.Core.Path.{◌≡◌}
use lib.ListN.{length, drop}
use Rattle.encoding.specs.Flags.{any_flag}
use Rattle.given_list.proofs.any_present.Given as goal

abbrev pub invariant-loop-k : goal.invariant-loop-k
invariant-loop-k l = (l.k ≤ length l.present) × (any_flag l.present ≡ any_flag (drop l.k l.present))

abbrev pub decreases-loop-k : goal.decreases-loop-k
decreases-loop-k l = length l.present - l.k
