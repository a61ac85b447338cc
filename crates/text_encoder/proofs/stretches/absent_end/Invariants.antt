-- `text_encoder::stretches::absent_end` meets its contract: so many absent readings are passed. Assumes nothing.
use mathlib.Core.Option.{none}
use lib.ListN.{length}
use Rattle.text.specs.Given.{name_list}
use Rattle.text_encoder.specs.Walks.{names_from}
use Rattle.text_encoder.proofs.Stretching.{SameTo}
use Rattle.text_encoder.proofs.stretches.absent_end.Given as goal

abbrev pub invariant-loop-walk : goal.invariant-loop-walk
invariant-loop-walk l = SameTo l.column l.bytes (name_list l.bytes l.starts l.lens l.present) none l.initial.count l.initial.walk l.count l.walk

abbrev pub decreases-loop-walk : goal.decreases-loop-walk
decreases-loop-walk l = length (names_from l.column l.bytes l.starts l.lens l.present l.walk)
