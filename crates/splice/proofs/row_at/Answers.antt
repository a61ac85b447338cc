-- `splice::row_at` meets its contract: one law for each way out. Assumes nothing.
use native.Mathlib.Omega.{arith}
use mathlib.Core.Path.{◌∙◌, sym, refl}
use Rattle.std.proofs.lemmas.Result.{err_from_is_err_and}
use Rattle.refusal.proofs.Numbered.{some}
use Rattle.column_part.proofs.Parts.{part_in_lem}
use Rattle.splice.proofs.Planning.{row-bad, row-17, row-18, row-given}
use Rattle.splice.proofs.row_at.Goals as goal

pub returns-in_err-p : goal.returns-in_err-p
returns-in_err-p c =
    let a = c.args in
    let p = err_from_is_err_and c.from_residual.result c.from_residual.ensures.1 in
    rw (p.1, p.2) (row-bad a.kind a.block.now a.position a.start a.end c.in_err-p.ensures (some c.in_err-p.field-0.0.0))

pub returns-then-not-is_served : goal.returns-then-not-is_served
returns-then-not-is_served c =
    let a = c.args in
    row-17 a.kind a.block.now a.position a.start a.end c.in_ok-p.ensures refl (sym c.is_served.ensures ∙ c.if-not-is_served.true)

pub returns-then-is_below : goal.returns-then-is_below
returns-then-is_below c =
    let a = c.args in
    row-18 a.kind a.block.now a.position a.start a.end c.in_ok-p.ensures refl
    (sym c.is_served.ensures ∙ c.if-not-is_served.false) (sym c.is_below.ensures ∙ c.if-is_below.true)

pub overflow_add-result : goal.overflow_add-result
overflow_add-result c =
    let a = c.args in
    omega (arith, part_in_lem a.block.now a.position _ c.in_ok-p.ensures, c.well_formed)

pub returns : goal.returns
returns c =
    let a = c.args in
    row-given a.kind a.block.now a.position a.start a.end c.in_ok-p.ensures refl
    (sym c.is_served.ensures ∙ c.if-not-is_served.false) (sym c.is_below.ensures ∙ c.if-is_below.false)
