-- `rle_form::column_end` meets its contract: the ending at each run is the one of the column. Assumes nothing.
use mathlib.Core.Path.{sym, ◌∙◌, ap}
use Rattle.std.specs.Prelude.{Ok}
use Rattle.std.proofs.lemmas.Result.{err_from_is_err_and}
use Rattle.encoding.proofs.Columns.{columns}
use Rattle.encoding.proofs.Via.{via}
use Rattle.runs.specs.Cases.{next_of}
use Rattle.runs.proofs.Ends.{element_laws}
use Rattle.rle_form.proofs.Turning.{ending-start, ending-next}
use Rattle.rle_form.proofs.column_end.Goals as goal

pub loop-next-init : goal.loop-next-init
loop-next-init c = let a = c.args in ending-start _ (element_laws a.values) a.s.now

pub loop-next-smaller : goal.loop-next-smaller
loop-next-smaller c =
    let a = c.args in
    let e = via next_of c.run_end.ensures (c.in_ok-next.was ∙ ap Ok c.in-Some.is) in
    (columns _ (element_laws a.values) a.s.now).falls _ _ e

pub loop-next-preserved : goal.loop-next-preserved
loop-next-preserved c =
    let a = c.args in
    let e = via next_of c.run_end.ensures (c.in_ok-next.was ∙ ap Ok c.in-Some.is) in
    c.loop-next.invariant ∙ ending-next _ (element_laws a.values) a.s.now _ _ e

pub returns-in_err-next : goal.returns-in_err-next
returns-in_err-next c =
    let a = c.args in
    let p = err_from_is_err_and c.from_residual.result c.from_residual.ensures.1 in
    rw (p.1, p.2) (sym (c.loop-next.invariant ∙ ending-next _ (element_laws a.values) a.s.now _ _ (sym c.in_err-next.ensures)))

pub returns : goal.returns
returns c =
    let a = c.args in
    let e = via next_of c.run_end.ensures (c.in_ok-next.was ∙ ap Ok c.in_default.is) in
    sym (c.loop-next.invariant ∙ ending-next _ (element_laws a.values) a.s.now _ _ e)
