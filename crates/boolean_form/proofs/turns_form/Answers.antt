-- `boolean_form::turns_form` meets its contract: no fault has the number 0, so the survey's fault says how the column ends. Assumes nothing.
use Rattle.encoding.proofs.Surveying.{survey-readings}
use Rattle.boolean_decoder.specs.Turns.{bool_trace}
use Rattle.boolean_decoder.proofs.Faults.{boolean-numbered}
use Rattle.boolean_encoder.specs.Writer.{bool_bytes}
use Rattle.own_form.proofs.Surveyed.{form-none, form-some}
use Rattle.boolean_form.proofs.turns_form.Goals as goal

pub turns_compared-requires : goal.turns_compared-requires
turns_compared-requires c = survey-readings (bool_trace c.args.s.now) _ c.survey-found.ensures

pub returns-in-None : goal.returns-in-None
returns-in-None c = form-none bool_trace bool_bytes _ _ c.survey-found.ensures (boolean-numbered _) c.in-None.is c.turns_compared.ensures

pub returns-in-Some : goal.returns-in-Some
returns-in-Some c = form-some bool_trace bool_bytes _ _ c.survey-found.ensures _ c.in-Some.is
