-- `boolean_form::turn_end` meets its contract: between two counts, what is owed from here is what was owed at the start. Assumes nothing.
use Prim.Native.Nat.{◌-◌}
use lib.ListN.{length}
use Rattle.boolean_form.proofs.Ahead.{Looked}
use Rattle.boolean_form.proofs.turn_end.Given as goal

abbrev pub invariant-loop-c : goal.invariant-loop-c
invariant-loop-c l = Looked l.s l.at l.had l.flag l.p l.k l.f

abbrev pub decreases-loop-c : goal.decreases-loop-c
decreases-loop-c l = length l.s - l.p
