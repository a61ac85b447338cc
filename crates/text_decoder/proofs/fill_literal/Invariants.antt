-- `text_decoder::fill_literal` meets its contract: each value read comes first of those still to come. Assumes nothing.
use Rattle.encoding.specs.Column.{literals}
use Rattle.encoding.specs.Slots.{flag_of}
use Rattle.encoding.proofs.Running.{Partly}
use Rattle.text.specs.Text.{text_e}
use Rattle.text.specs.Name.{start_of, length_of}
use Rattle.text_decoder.proofs.fill_literal.Given as goal

abbrev pub invariant-loop-left : goal.invariant-loop-left
invariant-loop-left l = Partly start_of flag_of (literals text_e l.s l.total l.c l.q) l.from l.initial.starts l.initial.present (literals text_e l.s l.total l.left l.at) l.i l.starts l.present
    × Partly length_of flag_of (literals text_e l.s l.total l.c l.q) l.from l.initial.lens l.initial.present (literals text_e l.s l.total l.left l.at) l.i l.lens l.present

abbrev pub decreases-loop-left : goal.decreases-loop-left
decreases-loop-left l = l.left
