-- `column_part::locate` meets its contract: one law for each way out. Assumes nothing.
use mathlib.Core.Path.{refl, ◌∙◌}
use native.Mathlib.Omega.{arith}
use Rattle.std.proofs.lemmas.Result.{err_from_is_err_and}
use Rattle.refusal.proofs.Numbered.{some}
use Rattle.raw_column.proofs.Opening.{open-bad, open-good}
use Rattle.column_part.proofs.Parts.{row-ready, part-bad, part-16, part-at}
use Rattle.column_part.proofs.locate.Goals as goal

pub returns-in_err-o : goal.returns-in_err-o
returns-in_err-o c =
    let p = err_from_is_err_and c.from_residual.result c.from_residual.ensures.1 in
    rw (p.1, p.2) (part-bad _ _ (open-bad c.args.block.now c.in_err-o.ensures (some c.in_err-o.field-0.0.0)))

pub returns-then-o-position : goal.returns-then-o-position
returns-then-o-position c = part-16 _ _ (open-good c.args.block.now c.in_ok-o.ensures refl) c.if-o-position.true

pub row_part-requires : goal.row_part-requires
row_part-requires c =
    row-ready (open-good c.args.block.now c.in_ok-o.ensures refl) c.if-o-position.false (omega (arith, c.well_formed.0))

pub returns : goal.returns
returns c =
    c.row_part.ensures ∙ part-at _ _ (open-good c.args.block.now c.in_ok-o.ensures refl) c.if-o-position.false
