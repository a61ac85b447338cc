-- `rle_form::runs_form` meets its contract: a fault is the column's own, and a sound column is compared. Assumes nothing.
use Rattle.std.proofs.lemmas.Result.{err_from_is_err_and}
use Rattle.rle_form.proofs.Turning.{form-refused, form-compared}
use Rattle.rle_form.proofs.runs_form.Goals as goal

pub returns-in_err-column_end : goal.returns-in_err-column_end
returns-in_err-column_end c =
    let p = err_from_is_err_and c.from_residual.result c.from_residual.ensures.1 in
    rw (p.1, p.2) (form-refused _ _ _ _ _ c.in_err-column_end.ensures)

pub returns : goal.returns
returns c = form-compared _ _ _ c.in_ok-column_end.ensures c.compare_column.ensures
