-- `delta_decoder::run_sum` meets its contract: the run is the one that its head opens, and its readings lead to a sum by its kind. Assumes nothing.
use mathlib.Core.Path.{◌∙◌, ap}
use native.Mathlib.Omega.{arith}
use mir.Syntax.{w64}
use mir.Val.{SFits}
use mir.ValLaws.{to_z-of_z}
use borrow.Author.Rules.{rules}
use Rattle.leb128.specs.Cases.{parsed_of}
use Rattle.encoding.specs.Cases.{head_of, begins_of}
use Rattle.encoding.proofs.Via.{via}
use Rattle.delta_decoder.proofs.LastSum.{last-repeat, last-unread, last-literal, last_none, last-amiss}
use Rattle.delta_decoder.proofs.run_sum.Goals as goal

pub returns-in-Ok : goal.returns-in-Ok
returns-in-Ok c =
    let d = c.in-Ok.d in
    let f : SFits w64 d = search rules in
    let r = via parsed_of c.leb128_i64.ensures c.in-Ok.is in
    last-repeat _ _ _ _ c.requires _ _ (via head_of c.head_at.ensures c.in-Ok-Repeat.is ∙ ap begins_of c.in-Ok-Repeat.field-0-is) d _ _ r (omega arith)
    (rw (to_z-of_z w64 d f) at c.repeat_sum.ensures)

pub returns-in-Err-leb128_i64 : goal.returns-in-Err-leb128_i64
returns-in-Err-leb128_i64 c =
    let r = via parsed_of c.leb128_i64.ensures c.in-Err-leb128_i64.is in
    last-unread _ _ _ _ c.requires _ _ (via head_of c.head_at.ensures c.in-Ok-Repeat.is ∙ ap begins_of c.in-Ok-Repeat.field-0-is) _ _ r

pub returns-in-Ok-Literal : goal.returns-in-Ok-Literal
returns-in-Ok-Literal c =
    last-literal _ _ _ _ c.requires _ _ (via head_of c.head_at.ensures c.in-Ok-Literal.is ∙ ap begins_of c.in-Ok-Literal.field-0-is) _ c.literals_sum.ensures

pub returns-in-Ok-Absent : goal.returns-in-Ok-Absent
returns-in-Ok-Absent c =
    last_none _ _ _ _ c.requires _ _ (via head_of c.head_at.ensures c.in-Ok-Absent.is ∙ ap begins_of c.in-Ok-Absent.field-0-is)

pub returns-in-Err : goal.returns-in-Err
returns-in-Err c =
    last-amiss _ _ _ _ c.requires _ _ (via head_of c.head_at.ensures c.in-Err.is)
