-- `column_reason::boolean_reason` meets its contract: what is told is of the count that was found, with its facts. Assumes nothing.
use mathlib.Core.Path.{◌∙◌, ap}
use native.Mathlib.Omega.{arith}
use Rattle.encoding.specs.Survivors.{seen}
use Rattle.encoding.proofs.Surveying.{survey-readings}
use Rattle.boolean_decoder.specs.Turns.{bool_trace}
use Rattle.boolean_decoder.proofs.Limits.{bool-limit}
use Rattle.reason.specs.Columns.{because}
use Rattle.column_reason.proofs.Telling.{boolean-sound, boolean-tells}
use Rattle.column_reason.proofs.boolean_reason.Goals as goal

pub turn_of-at-requires : goal.turn_of-at-requires
turn_of-at-requires c =
    let s = c.args.s.now in
    omega (arith, survey-readings (bool_trace s) (seen c.survey-turns.result) c.survey-turns.ensures, bool-limit s)

pub returns-in_err-refusal : goal.returns-in_err-refusal
returns-in_err-refusal c = rw c.from_residual.ensures (boolean-sound _ _ c.survey-turns.ensures c.in_err-refusal.was)

pub returns : goal.returns
returns c =
    let t = c.turn_of-at.ensures in
    ap because c.reason_at.ensures
    ∙ boolean-tells _ _ _ _ _ _ _ c.survey-turns.ensures c.in_ok-refusal.was t.1 c.turn_count.ensures c.turn_facts-facts.ensures
