-- `delta_decoder::scan_run` meets its contract: the run is the one that its head opens. Assumes nothing.
use mathlib.Core.Path.{sym, ◌∙◌, ap}
use native.Mathlib.Omega.{arith}
use Rattle.std.proofs.lemmas.Result.{err_from_is_err_and}
use Rattle.encoding.specs.Cases.{head_of, begins_of}
use Rattle.encoding.proofs.Via.{via}
use Rattle.encoding.proofs.Walking.{next-eq}
use Rattle.encoding.proofs.Columns.{head-known}
use Rattle.delta_decoder.proofs.Deltas.{delta-repeat, delta-literal, delta-absent, delta-amiss}
use Rattle.delta_decoder.proofs.scan_run.Goals as goal

pub scan_repeat-requires : goal.scan_repeat-requires
scan_repeat-requires c =
    record { c_bound = (head-known _ _ _ _ (via head_of c.head_of.ensures c.in_ok-c.was ∙ ap begins_of c.in-Repeat.is)).2; table_value = c.requires.table_value }

pub overflow_add-had : goal.overflow_add-had
overflow_add-had c =
    let h = head-known _ _ _ _ (via head_of c.head_of.ensures c.in_ok-c.was ∙ ap begins_of c.in-Literal.is) in
    omega arith

pub overflow_add-result : goal.overflow_add-result
overflow_add-result c =
    let h = head-known _ _ _ _ (via head_of c.head_of.ensures c.in_ok-c.was ∙ ap begins_of c.in-Absent.is) in
    omega arith

pub returns-in-Repeat : goal.returns-in-Repeat
returns-in-Repeat c =
    let e = delta-repeat _ _ _ _ _ _ c.requires.at_in_bounds.0 (via head_of c.head_of.ensures c.in_ok-c.was ∙ ap begins_of c.in-Repeat.is) in
    c.scan_repeat.ensures ∙ sym (next-eq e)

pub returns-in-Literal : goal.returns-in-Literal
returns-in-Literal c =
    let e = delta-literal _ _ _ _ _ _ c.requires.at_in_bounds.0 (via head_of c.head_of.ensures c.in_ok-c.was ∙ ap begins_of c.in-Literal.is) in
    c.scan_literal.ensures ∙ sym (next-eq e)

pub returns-in-Absent : goal.returns-in-Absent
returns-in-Absent c =
    let e = delta-absent _ _ _ _ _ _ c.requires.at_in_bounds.0 (via head_of c.head_of.ensures c.in_ok-c.was ∙ ap begins_of c.in-Absent.is) in
    sym (next-eq e)

pub returns-in_err-c : goal.returns-in_err-c
returns-in_err-c c =
    let e = delta-amiss _ _ _ _ _ _ c.requires.at_in_bounds.0 (via head_of c.head_of.ensures c.in_err-c.was) in
    let p = err_from_is_err_and c.from_residual.result c.from_residual.ensures.1 in
    rw (p.1, p.2) (sym (next-eq e))
