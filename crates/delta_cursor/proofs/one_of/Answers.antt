-- `delta_cursor::one_of` meets its contract: by the sort of the run. Assumes nothing.
use mathlib.Core.Path.{sym, ◌∙◌}
use mir.Syntax.{w64}
use mir.Val.{SFits}
use mir.ValLaws.{to_z-of_z}
use borrow.Author.Rules.{rules}
use Rattle.delta_cursor.proofs.Outs.{out-by, one-absent, one-repeat, one-literal}
use Rattle.delta_cursor.proofs.one_of.Goals as goal

pub returns-then-c-eq-ABSENT : goal.returns-then-c-eq-ABSENT
returns-then-c-eq-ABSENT c =
    let a = c.args in
    let f : SFits w64 a.lent.sum = search rules in
    let e = rw (to_z-of_z w64 a.lent.sum f) at c.bare.ensures in
    out-by e ∙ sym (one-absent _ a.lent a.c c.if-c-eq-ABSENT.true)

pub returns-then-c-eq-REPEAT : goal.returns-then-c-eq-REPEAT
returns-then-c-eq-REPEAT c =
    let a = c.args in
    c.repeat_at.ensures ∙ sym (one-repeat _ a.lent a.c c.if-c-eq-REPEAT.true)

pub returns : goal.returns
returns c =
    let a = c.args in
    c.literal_at.ensures ∙ sym (one-literal _ a.lent a.c c.if-c-eq-ABSENT.false c.if-c-eq-REPEAT.false)
