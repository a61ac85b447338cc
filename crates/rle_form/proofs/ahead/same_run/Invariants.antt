-- `rle_form::ahead::same_run` meets its contract: the reading is passed so many times. Assumes nothing.
use lib.ListN.{length}
use Rattle.runs.specs.Values.{element_of}
use Rattle.runs.proofs.Ends.{element_laws}
use Rattle.runs.specs.Pieces.{held_in, list_of}
use Rattle.rle_form.proofs.Looked.{SameTo}
use Rattle.rle_form.proofs.ahead.same_run.Given as goal

abbrev pub invariant-loop-here : goal.invariant-loop-here
invariant-loop-here l = SameTo (element_of l.values).E (element_laws l.values) l.s (held_in (element_of l.values).E l.s l.held) l.initial.count l.initial.here l.count l.here

abbrev pub decreases-loop-here : goal.decreases-loop-here
decreases-loop-here l = length (list_of (element_of l.values).E l.s l.here)
