-- `rle_decoder::scan_run` meets its contract: the run is the one that its head opens. Assumes nothing.
use mathlib.Core.Path.{sym, ◌∙◌, ap}
use native.Mathlib.Omega.{arith}
use Rattle.std.specs.Prelude.{Ok}
use Rattle.std.proofs.lemmas.Result.{err_from_is_err_and}
use Rattle.encoding.specs.Cases.{head_of}
use Rattle.encoding.specs.Column.{run_of}
use Rattle.encoding.proofs.Via.{via}
use Rattle.encoding.proofs.Walking.{next-eq}
use Rattle.encoding.proofs.Columns.{head-known, run-head}
use Rattle.rle_decoder.specs.Word.{u64_e}
use Rattle.rle_decoder.proofs.scan_run.Goals as goal

pub scan_repeat-requires : goal.scan_repeat-requires
scan_repeat-requires c =
    let r = via head_of c.head_of.ensures (c.in_ok-c.was ∙ ap Ok c.in-Repeat.is) in
    (head-known _ _ _ _ r).2

pub overflow_add-had : goal.overflow_add-had
overflow_add-had c =
    let r = via head_of c.head_of.ensures (c.in_ok-c.was ∙ ap Ok c.in-Literal.is) in
    let h = head-known _ _ _ _ r in
    omega arith

pub overflow_add-result : goal.overflow_add-result
overflow_add-result c =
    let r = via head_of c.head_of.ensures (c.in_ok-c.was ∙ ap Ok c.in-Absent.is) in
    let h = head-known _ _ _ _ r in
    omega arith

pub returns-in-Repeat : goal.returns-in-Repeat
unfolding run_of
returns-in-Repeat c =
    let r = via head_of c.head_of.ensures (c.in_ok-c.was ∙ ap Ok c.in-Repeat.is) in
    let e = run-head u64_e _ _ _ _ c.requires.at_in_bounds.0 r in
    c.scan_repeat.ensures ∙ sym (next-eq e)

pub returns-in-Literal : goal.returns-in-Literal
unfolding run_of
returns-in-Literal c =
    let r = via head_of c.head_of.ensures (c.in_ok-c.was ∙ ap Ok c.in-Literal.is) in
    let e = run-head u64_e _ _ _ _ c.requires.at_in_bounds.0 r in
    c.scan_literal.ensures ∙ sym (next-eq e)

pub returns-in-Absent : goal.returns-in-Absent
unfolding run_of
returns-in-Absent c =
    let r = via head_of c.head_of.ensures (c.in_ok-c.was ∙ ap Ok c.in-Absent.is) in
    let e = run-head u64_e _ _ _ _ c.requires.at_in_bounds.0 r in
    sym (next-eq e)

pub returns-in_err-c : goal.returns-in_err-c
unfolding run_of
returns-in_err-c c =
    let p = err_from_is_err_and c.from_residual.result c.from_residual.ensures.1 in
    let r = via head_of c.head_of.ensures c.in_err-c.was in
    let e = run-head u64_e _ _ _ _ c.requires.at_in_bounds.0 r in
    rw (p.1, p.2) (sym (next-eq e))
