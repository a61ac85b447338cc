-- `delta_decoder::scan_literal` meets its contract: what follows the differences still to come is what follows them all. Assumes nothing.
use mathlib.Core.Path.{◌≡◌}
use Rattle.encoding.specs.Column.{literals}
use Rattle.delta_decoder.specs.Difference.{i64_e}
use Rattle.delta_decoder.specs.Sofar.{summing}
use Rattle.delta_decoder.proofs.scan_literal.Given as goal

abbrev pub invariant-loop-left : goal.invariant-loop-left
invariant-loop-left l = (summing l.sum (literals i64_e l.s l.total l.c l.q)).next ≡ (summing l.n (literals i64_e l.s l.total l.left l.at)).next

abbrev pub decreases-loop-left : goal.decreases-loop-left
decreases-loop-left l = l.left
