-- `counted_table::open_lent` meets its contract: as it is read, 25, or as it is read. Assumes nothing.
use mathlib.Core.Path.{refl, ◌∙◌, sym}
use Rattle.std.proofs.lemmas.Result.{err_from_is_err_and}
use Rattle.refusal.proofs.Numbered.{some}
use Rattle.counted_table.proofs.Lending.{lent-bad, lent_other, lent_same, few-rows}
use Rattle.counted_table.proofs.open_lent.Goals as goal

pub returns-in_err-o : goal.returns-in_err-o
returns-in_err-o c =
    let a = c.args in
    let p = err_from_is_err_and c.from_residual.result c.from_residual.ensures.1 in
    rw (p.1, p.2) (lent-bad a.lent a.block.now c.in_err-o.ensures (some c.in_err-o.field-0.0.0))

pub fits_rows-requires : goal.fits_rows-requires
fits_rows-requires c = few-rows c.args.lent c.args.block.now c.in_ok-o.ensures refl

pub returns-then-not-fits_rows : goal.returns-then-not-fits_rows
returns-then-not-fits_rows c =
    lent_other c.args.lent c.args.block.now c.in_ok-o.ensures refl (sym (c.if-not-fits_rows.true) ∙ c.fits_rows.ensures)

pub returns : goal.returns
returns c = lent_same c.args.lent c.args.block.now c.in_ok-o.ensures refl (sym (c.if-not-fits_rows.false) ∙ c.fits_rows.ensures)
