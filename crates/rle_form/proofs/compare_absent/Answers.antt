-- `rle_form::compare_absent` meets its contract: the 0 stands there or not, and then the count. Assumes nothing.
use mathlib.Core.Path.{sym, ◌∙◌}
use Rattle.std.proofs.lemmas.Result.{err_from_is_err_and}
use Rattle.rle_form.proofs.Turning.{placed_on, placed_off}
use Rattle.rle_form.proofs.compare_absent.Goals as goal

pub returns-in_err-next : goal.returns-in_err-next
returns-in_err-next c =
    let p = err_from_is_err_and c.from_residual.result c.from_residual.ensures.1 in
    rw (p.1, p.2) (placed_off c.args.s.now c.args.at _ _ _ (sym c.in_err-next.ensures))

pub returns : goal.returns
returns c = c.compare_u64.ensures ∙ placed_on c.args.s.now c.args.at _ _ _ (sym c.in_ok-next.ensures)
