-- `boolean_decoder::survey` meets its contract: each count owes the same survey as the start. Assumes nothing.
use mathlib.Core.Path.{refl, sym, ◌∙◌}
use native.Mathlib.Omega.{arith}
use Rattle.encoding.proofs.Via.{via}
use Rattle.encoding.proofs.Surveying.{surveys-on}
use Rattle.boolean_decoder.specs.Cases.{step_of}
use Rattle.boolean_decoder.proofs.Turning.{turns, turned, surveys-trace, surveys-end, surveys-cut}
use Rattle.boolean_decoder.proofs.survey.Goals as goal

pub loop-at-init : goal.loop-at-init
loop-at-init c = (omega arith, omega arith, refl)

pub turn_at-requires : goal.turn_at-requires
turn_at-requires c = (c.loop-at-test.true, c.loop-at.invariant.0, c.loop-at.invariant.1)

pub loop-at-smaller : goal.loop-at-smaller
loop-at-smaller c =
    let loop-test = c.loop-at-test in
    let turn_at = c.turn_at in
    let h = turned _ _ _ (via step_of turn_at.ensures c.in-Ok.is) in
    omega (arith, h.ahead, loop-test.true)

pub loop-at-preserved : goal.loop-at-preserved
loop-at-preserved c =
    let e = via step_of c.turn_at.ensures c.in-Ok.is in
    let h = turned _ _ _ e in
    (h.capped, omega (arith, h.other), c.loop-at.invariant.2 ∙ surveys-on (turns _) _ _ e)

pub returns-in-Err : goal.returns-in-Err
returns-in-Err c =
    let loop = c.loop-at in
    let turn_at = c.turn_at in
    sym (surveys-trace _ ∙ loop.invariant.2 ∙ surveys-cut _ _ _ _ (via step_of turn_at.ensures c.in-Err.is))

pub returns : goal.returns
returns c = sym (surveys-trace _ ∙ c.loop-at.invariant.2 ∙ surveys-end _ _ c.loop-at-test.false)
