-- `picture::scales::step_for` meets its contract: the step is looked for from the power that the loop has reached. Assumes nothing.
use Prim.Native.Nat.{◌-◌}
use Rattle.picture.proofs.Marks.{At}
use Rattle.picture.proofs.scales.step_for.Given as goal

abbrev pub invariant-loop-p : goal.invariant-loop-p
invariant-loop-p l = At l.need l.p

abbrev pub decreases-loop-p : goal.decreases-loop-p
decreases-loop-p l = l.need - l.p
