-- `column_reason::facts::asked_at` meets its contract: what the count asks for that is read, or 0. Assumes nothing.
use mathlib.Core.Path.{sym, ◌∙◌, ap}
use mir.Syntax.{w64}
use mir.Val.{SFits}
use borrow.Author.Rules.{rules}
use Rattle.leb128.specs.Cases.{parsed_of}
use Rattle.leb128.proofs.Twos.{same}
use Rattle.encoding.proofs.Via.{via}
use Rattle.reason.specs.Reason.{asked}
use Rattle.column_reason.proofs.facts.asked_at.Goals as goal

pub returns-in-Ok : goal.returns-in-Ok
returns-in-Ok c =
    let x = c.in-Ok.c in
    let f : SFits w64 x = search rules in
    let r = via parsed_of c.leb128_i64.ensures c.in-Ok.is in
    rw (same x f) at c.asked_by.ensures ∙ sym (ap (asked _) r)

pub returns-in-Err : goal.returns-in-Err
returns-in-Err c = sym (ap (asked _) (via parsed_of c.leb128_i64.ensures c.in-Err.is))
