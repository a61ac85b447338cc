-- `delta_cursor::step` meets its contract: 24; or what is ready from each state that is entered is what is ready from the first. Assumes nothing.
use mathlib.Core.Path.{refl, sym, ◌∙◌, ap}
use native.Mathlib.Omega.{arith}
use Rattle.std.specs.Prelude.{Ok}
use Rattle.encoding.proofs.Via.{via}
use Rattle.cursor.specs.Kept.{leaves}
use Rattle.cursor.specs.Steps.{said}
use Rattle.cursor.proofs.Cursors.{enter-falls, ready-left, ready-into}
use Rattle.delta_decoder.specs.Difference.{i64_e}
use Rattle.delta_decoder.proofs.DifferenceLaws.{i64-laws}
use Rattle.delta_cursor.specs.Cases.{next_of}
use Rattle.delta_cursor.specs.SumCursor.{add_step}
use Rattle.delta_cursor.proofs.Outs.{step_other, step-beyond, step-ready}
use Rattle.delta_cursor.proofs.step.Goals as goal

pub returns-then-cursor-column : goal.returns-then-cursor-column
returns-then-cursor-column c = sym (step_other _ c.args.cursor c.if-cursor-column.true)

pub returns-then-column-cursor : goal.returns-then-column-cursor
returns-then-column-cursor c = sym (step-beyond _ c.args.cursor c.if-column-cursor.true)

pub loop-c-init : goal.loop-c-init
loop-c-init c = refl

pub loop-c-smaller : goal.loop-c-smaller
loop-c-smaller c = enter-falls i64_e i64-laws _ _ _ _ (via next_of c.entered_at.ensures (c.in-Ok-Some.is ∙ ap Ok c.in-Ok-Some.field-0-is))

pub loop-c-preserved : goal.loop-c-preserved
loop-c-preserved c = c.loop-c.invariant ∙ ready-into i64_e i64-laws _ _ _ c.loop-c-test.true (via next_of c.entered_at.ensures (c.in-Ok-Some.is ∙ ap Ok c.in-Ok-Some.field-0-is))

pub returns-in-Ok-None : goal.returns-in-Ok-None
unfolding add_step leaves said
returns-in-Ok-None c =
    let a = c.args.cursor in
    let r = c.loop-c.invariant ∙ ready-into i64_e i64-laws _ _ _ c.loop-c-test.true (via next_of c.entered_at.ensures (c.in-Ok-None.is ∙ ap Ok c.in-Ok-None.field-0-is)) in
    sym (step-ready _ a (omega arith) c.if-column-cursor.false c.within-c.ensures r)

pub returns-in-Err : goal.returns-in-Err
unfolding add_step leaves said
returns-in-Err c =
    let a = c.args.cursor in
    let r = c.loop-c.invariant ∙ ready-into i64_e i64-laws _ _ _ c.loop-c-test.true (via next_of c.entered_at.ensures c.in-Err.is) in
    sym (step-ready _ a (omega arith) c.if-column-cursor.false c.within-c.ensures r)

pub returns : goal.returns
returns c =
    let a = c.args.cursor in
    let n = c.loop-c-test.false in
    c.one_of.ensures ∙ sym (step-ready _ a (omega arith) c.if-column-cursor.false c.within-c.ensures (c.loop-c.invariant ∙ ready-left i64_e i64-laws _ _ (omega arith)))
