-- `delta_decoder::survey` meets its contract: the survey owed at each run's start is the one owed at the column's. Assumes nothing.
use Prim.Native.Nat.{◌-◌, ◌^◌, ◌≤◌}
use mathlib.Core.Path.{◌≡◌}
use lib.ListN.{length}
use Rattle.encoding.specs.Limit.{limit}
use Rattle.encoding.proofs.Surveying.{surveys}
use Rattle.delta_decoder.specs.Sofar.{sofar}
use Rattle.delta_decoder.proofs.Deltas.{deltas}
use Rattle.delta_decoder.proofs.survey.Given as goal

abbrev pub invariant-loop-at : goal.invariant-loop-at
invariant-loop-at l = (l.had ≤ limit) × (surveys (deltas l.s) (sofar 0 0 (2 ^ 63)) ≡ surveys (deltas l.s) (sofar l.at l.had l.n))

abbrev pub decreases-loop-at : goal.decreases-loop-at
decreases-loop-at l = length l.s - l.at
