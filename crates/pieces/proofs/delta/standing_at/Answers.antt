-- `pieces::delta::standing_at` meets its contract: by the sort of the run. Assumes nothing.
use mathlib.Core.Path.{sym, ◌∙◌}
use native.Mathlib.Omega.{arith}
use borrow.Author.Rules.{rules}
use mir.Syntax.{w64}
use mir.Val.{SFits}
use mir.ValLaws.{to_z-of_z}
use Rattle.pieces.specs.Cases.{delta_read}
use Rattle.pieces.proofs.DeltaPieces.{standing-repeat, standing-absent, standing-alone}
use Rattle.pieces.proofs.delta.standing_at.Goals as goal

pub returns-then-c-eq-REPEAT : goal.returns-then-c-eq-REPEAT
returns-then-c-eq-REPEAT c = let a = c.args in c.repeating_at.ensures ∙ sym (standing-repeat a.c (delta_read a.reading) c.if-c-eq-REPEAT.true)

pub returns-then-c-eq-ABSENT : goal.returns-then-c-eq-ABSENT
returns-then-c-eq-ABSENT c =
    let a = c.args in
    let fd : SFits w64 a.c.difference = search rules in
    let fs : SFits w64 a.c.sum = search rules in
    rw (to_z-of_z w64 a.c.difference fd, to_z-of_z w64 a.c.sum fs) (sym (standing-absent a.c (delta_read a.reading) _ c.if-c-eq-REPEAT.false c.if-c-eq-ABSENT.true (omega arith)))

pub returns : goal.returns
returns c = let a = c.args in sym (standing-alone a.c (delta_read a.reading) c.if-c-eq-REPEAT.false c.if-c-eq-ABSENT.false)
