-- `boolean_form::turns_compared` meets its contract: before each count what is left to compare is the whole. Assumes nothing.
use Prim.Native.Nat.{◌-◌}
use lib.ListN.{length}
use Rattle.boolean_form.proofs.Comparing.{Agreed}
use Rattle.boolean_form.proofs.turns_compared.Given as goal

abbrev pub invariant-loop-had : goal.invariant-loop-had
invariant-loop-had l = Agreed l.s l.at l.had l.flag

abbrev pub decreases-loop-had : goal.decreases-loop-had
decreases-loop-had l = length l.s - l.at
