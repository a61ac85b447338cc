-- `column_reason::text_reason` meets its contract: what is told is of the run that was found, with its count and facts. Assumes nothing.
use mathlib.Core.Path.{◌∙◌, ap}
use Rattle.reason.specs.Columns.{because}
use Rattle.column_reason.proofs.Telling.{text-sound, text-tells}
use Rattle.column_reason.proofs.text_reason.Goals as goal

pub returns-in_err-refusal : goal.returns-in_err-refusal
returns-in_err-refusal c = rw c.from_residual.ensures (text-sound _ _ c.survey-names.ensures c.in_err-refusal.was)

pub returns : goal.returns
returns c =
    ap because c.reason_at.ensures
    ∙ text-tells _ _ _ _ _ _ c.survey-names.ensures c.in_ok-refusal.was c.run_of-at.ensures c.count_at.ensures c.name_facts-facts.ensures
