-- `text_encoder::stretches::literal_end` meets its contract: so many names are passed that equal no neighbour. Assumes nothing.
use lib.ListN.{length}
use Rattle.text.specs.Given.{name_list}
use Rattle.text_encoder.specs.Walks.{names_from}
use Rattle.text_encoder.proofs.Stretching.{ApartTo}
use Rattle.text_encoder.proofs.stretches.literal_end.Given as goal

abbrev pub invariant-loop-walk : goal.invariant-loop-walk
invariant-loop-walk l = ApartTo l.column l.bytes (name_list l.bytes l.starts l.lens l.present) l.initial.walk l.count l.walk

abbrev pub decreases-loop-walk : goal.decreases-loop-walk
decreases-loop-walk l = length (names_from l.column l.bytes l.starts l.lens l.present l.walk)
