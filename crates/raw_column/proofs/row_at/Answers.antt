-- `raw_column::row_at` meets its contract: one law for each way out. Assumes nothing.
use mathlib.Core.Path.{sym}
use native.Mathlib.Omega.{arith}
use Rattle.std.proofs.lemmas.Result.{err_from_is_err_and}
use Rattle.leb128.proofs.Laws.{u64-next}
use Rattle.raw_column.proofs.Opening.{row-bad, row-bad-len, row-good}
use Rattle.raw_column.proofs.row_at.Goals as goal

pub returns-in_err-spec : goal.returns-in_err-spec
returns-in_err-spec c =
    let p = err_from_is_err_and c.from_residual.result c.from_residual.ensures.1 in
    rw (p.1, p.2) (row-bad _ _ (sym c.in_err-spec.ensures))

pub returns-in_err-len : goal.returns-in_err-len
returns-in_err-len c =
    let p = err_from_is_err_and c.from_residual-in_err-len.result c.from_residual-in_err-len.ensures.1 in
    rw (p.1, p.2) (row-bad-len _ _ (sym c.in_ok-spec.ensures) (sym c.in_err-len.ensures))

pub returns : goal.returns
returns c =
    let f = sym c.in_ok-len.ensures in
    let k = u64-next _ c.in_ok-spec.q c.in_ok-len.len c.in_ok-len.next f in
    (omega arith, k.1, row-good _ _ (sym c.in_ok-spec.ensures) f)
