-- `leb128::tenth_i64` meets its contract: the laws of ten bytes, one for each way out. Assumes nothing.
use mathlib.Core.Path.{sym, ◌∙◌}
use mir.Syntax.{w64}
use mir.ValLaws.{to_z-of_z}
use borrow.Author.Rules.{sfits_of}
use Rattle.leb128.proofs.Signed.{repeats, tenth-large, tenth-overlong, tenth-up, tenth-down}
use Rattle.leb128.proofs.tenth_i64.Goals as goal

pub returns-then-last-fill_of : goal.returns-then-last-fill_of
returns-then-last-fill_of c =
    let a = c.args in
    tenth-large a.at a.low a.scale a.prev a.last (λ z. c.if-last-fill_of.true (z ∙ sym c.fill_of.ensures))

pub returns-then-last-fill_of-2 : goal.returns-then-last-fill_of-2
returns-then-last-fill_of-2 c =
    let a = c.args in
    tenth-overlong a.at a.low a.scale a.prev a.last (c.if-last-fill_of.false ∙ c.fill_of.ensures) (c.if-last-fill_of-2.true ∙ c.fill_of-2.ensures)

pub returns-then-last-eq0 : goal.returns-then-last-eq0
returns-then-last-eq0 c =
    let a = c.args in
    tenth-up a.at a.low a.scale a.prev a.last (c.if-last-fill_of.false ∙ c.fill_of.ensures) (λ z. c.if-last-fill_of-2.false (z ∙ sym c.fill_of-2.ensures)) c.if-last-eq0.true
    (to_z-of_z w64 c.up.result (sfits_of c.up.type_inv) ∙ c.up.ensures)

pub returns : goal.returns
returns c =
    let a = c.args in
    let f = c.if-last-fill_of.false ∙ c.fill_of.ensures in
    tenth-down a.at a.low a.scale a.prev a.last f (λ z. c.if-last-fill_of-2.false (z ∙ sym c.fill_of-2.ensures)) (repeats a.last f c.if-last-eq0.false)
    (to_z-of_z w64 c.down.result (sfits_of c.down.type_inv) ∙ c.down.ensures)
