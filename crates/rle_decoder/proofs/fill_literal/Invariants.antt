-- `rle_decoder::fill_literal` meets its contract: each value read comes first of those still to come. Assumes nothing.
use Rattle.encoding.specs.Column.{literals}
use Rattle.encoding.specs.Slots.{slot_of, flag_of}
use Rattle.rle_decoder.specs.Word.{u64_e}
use Rattle.encoding.proofs.Running.{Partly}
use Rattle.rle_decoder.proofs.fill_literal.Given as goal

abbrev pub invariant-loop-left : goal.invariant-loop-left
invariant-loop-left l = Partly (slot_of 0) flag_of (literals u64_e l.s l.total l.c l.q) l.from l.initial.values l.initial.present (literals u64_e l.s l.total l.left l.at) l.i l.values l.present

abbrev pub decreases-loop-left : goal.decreases-loop-left
decreases-loop-left l = l.left
