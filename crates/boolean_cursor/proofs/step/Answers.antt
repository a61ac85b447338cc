-- `boolean_cursor::step` meets its contract: 24; or what is ready from the state. Assumes nothing.
use mathlib.Core.Path.{sym, ◌∙◌, ap}
use native.Mathlib.Omega.{arith}
use Rattle.std.specs.Prelude.{Ok}
use Rattle.encoding.proofs.Via.{via}
use Rattle.cursor.specs.Kept.{leaves}
use Rattle.cursor.specs.Steps.{said}
use Rattle.boolean_cursor.proofs.TurnCursors.{ready-left, ready-left-some}
use Rattle.boolean_cursor.specs.Cases.{next_of}
use Rattle.boolean_cursor.proofs.Outs.{step_other, step-beyond, step-ready}
use Rattle.boolean_cursor.proofs.step.Goals as goal

pub returns-then-cursor-column : goal.returns-then-cursor-column
returns-then-cursor-column c = sym (step_other _ c.args.cursor c.if-cursor-column.true)

pub returns-then-column-cursor : goal.returns-then-column-cursor
returns-then-column-cursor c = sym (step-beyond _ c.args.cursor c.if-column-cursor.true)

-- inside a count
pub returns-then-cursor-gt0 : goal.returns-then-cursor-gt0
returns-then-cursor-gt0 c =
    let a = c.args.cursor in
    c.one_of.ensures ∙ sym (step-ready _ a (omega arith) c.if-column-cursor.false (ready-left _ _ c.if-cursor-gt0.true))

pub one_of-requires-in-Ok-Some : goal.one_of-requires-in-Ok-Some
one_of-requires-in-Ok-Some c = ready-left-some _ _ _ (via next_of c.ready_at.ensures (c.in-Ok-Some.is ∙ ap Ok c.in-Ok-Some.field-0-is))

pub returns-in-Ok-Some : goal.returns-in-Ok-Some
returns-in-Ok-Some c =
    let e = via next_of c.ready_at.ensures (c.in-Ok-Some.is ∙ ap Ok c.in-Ok-Some.field-0-is) in
    c.one_of-in-Ok-Some.ensures ∙ sym (step-ready _ c.args.cursor (omega arith) c.if-column-cursor.false e)

pub returns-in-Ok-None : goal.returns-in-Ok-None
unfolding leaves said
returns-in-Ok-None c =
    let e = via next_of c.ready_at.ensures (c.in-Ok-None.is ∙ ap Ok c.in-Ok-None.field-0-is) in
    sym (step-ready _ c.args.cursor (omega arith) c.if-column-cursor.false e)

pub returns-in-Err : goal.returns-in-Err
unfolding leaves said
returns-in-Err c = sym (step-ready _ c.args.cursor (omega arith) c.if-column-cursor.false (via next_of c.ready_at.ensures c.in-Err.is))
