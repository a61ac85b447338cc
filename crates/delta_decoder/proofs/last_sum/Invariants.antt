-- `delta_decoder::last_sum` meets its contract: the readings from each run on lead to the sum that all lead to. Assumes nothing.
use Prim.Native.Nat.{◌-◌, ◌≤◌}
use lib.IntN.{pos}
use lib.ListN.{length}
use Rattle.encoding.specs.Limit.{limit}
use Rattle.delta_decoder.specs.Sofar.{sofar}
use Rattle.delta_decoder.specs.Sums.{delta_trace, last_sum}
use Rattle.delta_decoder.proofs.LastSum.{Leading}
use Rattle.delta_decoder.proofs.last_sum.Given as goal

abbrev pub invariant-loop-at : goal.invariant-loop-at
invariant-loop-at l = (l.had ≤ limit) × Leading l.s (last_sum (pos 0) (delta_trace l.s).readings) (sofar l.at l.had l.n)

abbrev pub decreases-loop-at : goal.decreases-loop-at
decreases-loop-at l = length l.s - l.at
