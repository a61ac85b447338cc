-- `text_encoder::walk::entered` meets its contract: a sound column's run is entered by how it begins. Assumes nothing.
use mathlib.Core.Path.{◌∙◌, ap}
use native.Mathlib.Omega.{arith}
use Rattle.std.specs.Prelude.{Ok}
use Rattle.encoding.specs.Cases.{head_of}
use Rattle.encoding.proofs.Columns.{head-known}
use Rattle.encoding.proofs.Via.{via}
use Rattle.text_encoder.proofs.Entered.{head-there, onto-literal, onto-absent}
use Rattle.text_encoder.proofs.walk.entered.Goals as goal

pub repeat_at-requires : goal.repeat_at-requires
repeat_at-requires c =
    let p = c.requires in
    record { sound = p.sound; left_value = (p.left_value.0, p.left_value.1, via head_of c.head_at.ensures (c.in-Ok-Repeat.is ∙ ap Ok c.in-Ok-Repeat.field-0-is)) }

pub overflow_add-result : goal.overflow_add-result
overflow_add-result c =
    let e = via head_of c.head_at.ensures (c.in-Ok-Literal.is ∙ ap Ok c.in-Ok-Literal.field-0-is) in
    let h = head-known _ _ _ _ e in
    omega (arith, h.2)

pub overflow_add-result-in-Ok-Absent : goal.overflow_add-result-in-Ok-Absent
overflow_add-result-in-Ok-Absent c =
    let e = via head_of c.head_at.ensures (c.in-Ok-Absent.is ∙ ap Ok c.in-Ok-Absent.field-0-is) in
    let h = head-known _ _ _ _ e in
    omega (arith, h.2)

pub returns-in-Ok-Literal : goal.returns-in-Ok-Literal
returns-in-Ok-Literal c =
    let p = c.requires in
    let e = via head_of c.head_at.ensures (c.in-Ok-Literal.is ∙ ap Ok c.in-Ok-Literal.field-0-is) in
    record { onward = onto-literal _ _ p.sound p.left_value.0 p.left_value.1 _ _ e; at_lt_at = (head-known _ _ _ _ e).0 }

pub returns-in-Ok-Absent : goal.returns-in-Ok-Absent
returns-in-Ok-Absent c =
    let p = c.requires in
    let e = via head_of c.head_at.ensures (c.in-Ok-Absent.is ∙ ap Ok c.in-Ok-Absent.field-0-is) in
    record { onward = onto-absent _ _ p.sound p.left_value.0 p.left_value.1 _ _ e; at_lt_at = (head-known _ _ _ _ e).0 }

pub returns-in-Err : goal.returns-in-Err
returns-in-Err c =
    let p = c.requires in
    absurd (head-there _ _ p.sound p.left_value.0 p.left_value.1 _ _ (via head_of c.head_at.ensures c.in-Err.is))
