-- `delta_decoder::read_literals` meets its contract: the sums counted and those of the differences still to come are all that are held. Assumes nothing.
use Prim.Native.Nat.{◌-◌}
use lib.ListN.{length}
use Rattle.encoding.specs.Column.{literals}
use Rattle.delta_decoder.specs.Difference.{i64_e}
use Rattle.delta_decoder.specs.Sofar.{summing}
use Rattle.delta_decoder.proofs.Readings.{Counted}
use Rattle.delta_decoder.proofs.read_literals.Given as goal

abbrev pub invariant-loop-read : goal.invariant-loop-read
invariant-loop-read l = Counted l.s l.c (length (summing l.sum (literals i64_e l.s 0 l.c l.q)).readings) l.read l.at l.n

abbrev pub decreases-loop-read : goal.decreases-loop-read
decreases-loop-read l = l.c - l.read
