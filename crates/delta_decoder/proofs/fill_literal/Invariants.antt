-- `delta_decoder::fill_literal` meets its contract: each sum comes first of those still to come, or is not held. Assumes nothing.
use lib.IntN.{pos}
use Rattle.encoding.specs.Column.{literals}
use Rattle.encoding.specs.Slots.{slot_of, flag_of}
use Rattle.encoding.proofs.Running.{Partly}
use Rattle.delta_decoder.specs.Difference.{i64_e}
use Rattle.delta_decoder.specs.Sofar.{summing}
use Rattle.delta_decoder.proofs.fill_literal.Given as goal

abbrev pub invariant-loop-left : goal.invariant-loop-left
invariant-loop-left l = Partly (slot_of (pos 0)) flag_of (summing l.sum (literals i64_e l.s l.total l.c l.q)) l.from l.initial.values l.initial.present
    (summing l.n (literals i64_e l.s l.total l.left l.at)) l.i l.values l.present

abbrev pub decreases-loop-left : goal.decreases-loop-left
decreases-loop-left l = l.left
