-- `counted_table::edits::answer` meets its contract. Assumes nothing.
use mathlib.Core.Path.{refl, ◌∙◌}
use Rattle.refusal.proofs.Numbered.{some}
use Rattle.splice.specs.Edit.{spliced_of}
use Rattle.counted_table.proofs.Lending.{by-refused, by-done}
use Rattle.counted_table.proofs.edits.answer.Goals as goal
