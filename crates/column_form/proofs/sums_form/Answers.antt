-- `column_form::sums_form` meets its contract: without a fault its sums' differences are those that were read. Assumes nothing.
use mathlib.Core.List.{map}
use Rattle.encoding.specs.Column.{value}
use Rattle.delta_decoder.specs.Sums.{delta_trace}
use Rattle.delta_encoder.specs.Differences.{delta_bytes}
use Rattle.own_form.proofs.Surveyed.{form-some}
use Rattle.column_form.proofs.Summed.{form-summed}
use Rattle.column_form.proofs.sums_form.Goals as goal

pub returns-in-None : goal.returns-in-None
returns-in-None c = form-summed _ _ c.survey.ensures c.in-None.is c.runs_form.ensures

pub returns-in-Some : goal.returns-in-Some
returns-in-Some c = form-some delta_trace (λ rs. delta_bytes (map value rs)) _ _ c.survey.ensures _ c.in-Some.is
