-- `corrections::locate` meets its contract: one law for each way out. Assumes nothing.
use Rattle.std.proofs.lemmas.Result.{err_from_is_err_and}
use Rattle.corrections.proofs.Layers.{over-refused, over-refused-first, over-corrected, over-first}
use Rattle.corrections.proofs.locate.Goals as goal

pub returns-in_err-c : goal.returns-in_err-c
returns-in_err-c c =
    let p = err_from_is_err_and c.from_residual.result c.from_residual.ensures.1 in
    rw (p.1, p.2) (over-refused _ _ _ c.locate_spec.result c.map_err.result c.locate_spec.ensures.row c.map_err.ensures.cases c.in_err-c.was)

pub returns-in_err-f : goal.returns-in_err-f
returns-in_err-f c =
    let p = err_from_is_err_and c.from_residual-in_err-f.result c.from_residual-in_err-f.ensures.1 in
    rw (p.1, p.2) (over-refused-first _ _ _ c.locate_spec.result c.map_err.result c.locate_spec.ensures.row c.map_err.ensures.cases c.locate_spec-2.result c.map_err-2.result c.locate_spec-2.ensures.row c.map_err-2.ensures.cases
    c.in_ok-c.was c.in_err-f.was)

pub returns-in-Some : goal.returns-in-Some
returns-in-Some c =
    over-corrected _ _ _ c.locate_spec.result c.map_err.result c.locate_spec.ensures.row c.map_err.ensures.cases c.locate_spec-2.result c.map_err-2.result c.locate_spec-2.ensures.row c.map_err-2.ensures.cases
    c.in_ok-c.was c.in_ok-f.was c.in-Some.is

pub returns-in-None : goal.returns-in-None
returns-in-None c =
    over-first _ _ _ c.locate_spec.result c.map_err.result c.locate_spec.ensures.row c.map_err.ensures.cases c.locate_spec-2.result c.map_err-2.result c.locate_spec-2.ensures.row c.map_err-2.ensures.cases
    c.in_ok-c.was c.in_ok-f.was c.in-None.is c.map.result c.map.ensures.cases
