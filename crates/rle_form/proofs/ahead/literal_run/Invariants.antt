-- `rle_form::ahead::literal_run` meets its contract: so many values equal no neighbour so far. Assumes nothing.
use lib.ListN.{length}
use Rattle.runs.specs.Values.{element_of}
use Rattle.runs.proofs.Ends.{element_laws}
use Rattle.runs.specs.Pieces.{list_of}
use Rattle.rle_form.proofs.Looked.{LoneTo}
use Rattle.rle_form.proofs.ahead.literal_run.Given as goal

abbrev pub invariant-loop-here : goal.invariant-loop-here
invariant-loop-here l = LoneTo (element_of l.values).E (element_laws l.values) l.s l.initial.here l.count l.here

abbrev pub decreases-loop-here : goal.decreases-loop-here
decreases-loop-here l = length (list_of (element_of l.values).E l.s l.here)
