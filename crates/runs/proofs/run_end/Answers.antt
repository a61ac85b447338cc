-- `runs::run_end` meets its contract: the run is the one that its head opens; at the column's end there is none. Assumes nothing.
use mathlib.Core.Path.{sym, ◌∙◌, ap}
use native.Mathlib.Omega.{arith}
use Rattle.std.specs.Prelude.{Ok}
use Rattle.std.proofs.lemmas.Result.{err_from_is_err_and}
use Rattle.encoding.specs.Cases.{head_of}
use Rattle.encoding.specs.Column.{run_of}
use Rattle.encoding.proofs.Via.{via}
use Rattle.encoding.proofs.Walking.{next-eq}
use Rattle.encoding.proofs.Columns.{head-known, run-head, run_end}
use Rattle.runs.specs.Values.{element_of}
use Rattle.runs.proofs.run_end.Goals as goal

pub returns-then-s-at : goal.returns-then-s-at
returns-then-s-at c =
    let a = c.args in
    sym (next-eq (run_end (element_of a.values).E a.s.now a.at a.had c.if-s-at.true))

pub repeat_end-requires : goal.repeat_end-requires
repeat_end-requires c =
    let r = via head_of c.head_at.ensures (c.in_ok-c.was ∙ ap Ok c.in-Repeat.is) in
    (head-known _ _ _ _ r).2

pub overflow_add-had : goal.overflow_add-had
overflow_add-had c =
    let r = via head_of c.head_at.ensures (c.in_ok-c.was ∙ ap Ok c.in-Literal.is) in
    let h = head-known _ _ _ _ r in
    omega arith

pub overflow_add-result : goal.overflow_add-result
overflow_add-result c =
    let r = via head_of c.head_at.ensures (c.in_ok-c.was ∙ ap Ok c.in-Absent.is) in
    let h = head-known _ _ _ _ r in
    omega arith

pub returns-in-Repeat : goal.returns-in-Repeat
unfolding run_of
returns-in-Repeat c =
    let x = c.args in
    let r = via head_of c.head_at.ensures (c.in_ok-c.was ∙ ap Ok c.in-Repeat.is) in
    let e = run-head (element_of x.values).E x.s.now x.at x.had _ c.if-s-at.false r in
    c.repeat_end.ensures ∙ sym (next-eq e)

pub returns-in-Literal : goal.returns-in-Literal
unfolding run_of
returns-in-Literal c =
    let x = c.args in
    let r = via head_of c.head_at.ensures (c.in_ok-c.was ∙ ap Ok c.in-Literal.is) in
    let e = run-head (element_of x.values).E x.s.now x.at x.had _ c.if-s-at.false r in
    c.literal_end.ensures ∙ sym (next-eq e)

pub returns-in-Absent : goal.returns-in-Absent
unfolding run_of
returns-in-Absent c =
    let x = c.args in
    let r = via head_of c.head_at.ensures (c.in_ok-c.was ∙ ap Ok c.in-Absent.is) in
    let e = run-head (element_of x.values).E x.s.now x.at x.had _ c.if-s-at.false r in
    sym (next-eq e)

pub returns-in_err-c : goal.returns-in_err-c
unfolding run_of
returns-in_err-c c =
    let x = c.args in
    let p = err_from_is_err_and c.from_residual.result c.from_residual.ensures.1 in
    let r = via head_of c.head_at.ensures c.in_err-c.was in
    let e = run-head (element_of x.values).E x.s.now x.at x.had _ c.if-s-at.false r in
    rw (p.1, p.2) (sym (next-eq e))
