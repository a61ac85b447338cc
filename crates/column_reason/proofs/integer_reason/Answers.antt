-- `column_reason::integer_reason` meets its contract: what is told is of the run that was found, with its count and facts. Assumes nothing.
use mathlib.Core.Path.{◌∙◌, ap}
use Rattle.reason.specs.Columns.{because}
use Rattle.column_reason.proofs.Telling.{integer-sound, integer-tells}
use Rattle.column_reason.proofs.integer_reason.Goals as goal

pub returns-in_err-refusal : goal.returns-in_err-refusal
returns-in_err-refusal c = rw c.from_residual.ensures (integer-sound _ _ c.survey-words.ensures c.in_err-refusal.was)

pub returns : goal.returns
returns c =
    ap because c.reason_at.ensures
    ∙ integer-tells _ _ _ _ _ _ c.survey-words.ensures c.in_ok-refusal.was c.run_of-at.ensures c.count_at.ensures c.plain_facts-facts.ensures
