-- `column_reason::delta_reason` meets its contract: what is told is of the run that was found, with its count and facts. Assumes nothing.
use mathlib.Core.Path.{◌∙◌, ap}
use Rattle.reason.specs.Columns.{because}
use Rattle.column_reason.proofs.Telling.{delta-sound, delta-tells}
use Rattle.column_reason.proofs.delta_reason.Goals as goal

pub returns-in_err-refusal : goal.returns-in_err-refusal
returns-in_err-refusal c = rw c.from_residual.ensures (delta-sound _ _ c.survey-sums.ensures c.in_err-refusal.was)

pub returns : goal.returns
returns c =
    ap because c.reason_at.ensures
    ∙ delta-tells _ _ _ _ _ _ c.survey-sums.ensures c.in_ok-refusal.was c.run_of-at.ensures c.count_at.ensures c.sum_facts-facts.ensures
