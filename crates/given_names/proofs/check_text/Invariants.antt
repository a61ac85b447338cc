-- `given_names::check_text` meets its contract: what is owed from i on is what is owed of all. Assumes nothing.
use Prim.Native.Nat.{◌-◌, ◌≤◌}
use mathlib.Core.Path.{◌≡◌}
use mathlib.Core.Option.{none}
use lib.ListN.{length, drop}
use Rattle.text.specs.Given.{name_list, bad_pair, bad_text}
use Rattle.given_names.proofs.check_text.Given as goal

abbrev pub invariant-loop-i : goal.invariant-loop-i
invariant-loop-i l = (length l.lens ≡ length l.starts) × (length l.present ≡ length l.starts) × (l.i ≤ length l.starts)
    × (bad_text 0 (name_list l.bytes l.starts l.lens l.present) ≡ bad_text l.i (drop l.i (name_list l.bytes l.starts l.lens l.present)))
    × (bad_pair (length l.bytes) 0 l.starts l.lens l.present ≡ none)

abbrev pub decreases-loop-i : goal.decreases-loop-i
decreases-loop-i l = length l.starts - l.i
