-- `delta_decoder::literals_sum` meets its contract: the differences still to come lead to the sum that all lead to. Assumes nothing.
use Rattle.encoding.specs.Column.{literals}
use Rattle.delta_decoder.specs.Difference.{i64_e}
use Rattle.delta_decoder.specs.Sofar.{sum_of, summing}
use Rattle.delta_decoder.specs.Sums.{last_sum}
use Rattle.delta_decoder.proofs.LastSum.{Adding}
use Rattle.delta_decoder.proofs.literals_sum.Given as goal

abbrev pub invariant-loop-left : goal.invariant-loop-left
invariant-loop-left l = Adding l.s (last_sum (sum_of l.sum) (summing l.sum (literals i64_e l.s 0 l.c l.q)).readings) l.left l.at l.n

abbrev pub decreases-loop-left : goal.decreases-loop-left
decreases-loop-left l = l.left
