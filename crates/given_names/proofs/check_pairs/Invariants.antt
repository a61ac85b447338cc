-- `given_names::check_pairs` meets its contract: what is owed from i on is what is owed of all. Assumes nothing.
use Prim.Native.Nat.{◌-◌, ◌≤◌}
use mathlib.Core.Path.{◌≡◌}
use lib.ListN.{length, drop}
use Rattle.text.specs.Given.{bad_pair}
use Rattle.given_names.proofs.check_pairs.Given as goal

abbrev pub invariant-loop-i : goal.invariant-loop-i
invariant-loop-i l = (length l.lens ≡ length l.starts) × (length l.present ≡ length l.starts) × (l.i ≤ length l.starts)
    × (bad_pair l.size 0 l.starts l.lens l.present ≡ bad_pair l.size l.i (drop l.i l.starts) (drop l.i l.lens) (drop l.i l.present))

abbrev pub decreases-loop-i : goal.decreases-loop-i
decreases-loop-i l = length l.starts - l.i
