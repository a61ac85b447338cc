-- `delta_cursor::entered_at` meets its contract: the run is entered by how it begins. Assumes nothing.
use mathlib.Core.Path.{sym, ◌∙◌, ap}
use native.Mathlib.Omega.{arith}
use Rattle.std.specs.Prelude.{Ok}
use Rattle.std.proofs.lemmas.Result.{err_from_is_err_and}
use Rattle.encoding.specs.Cases.{head_of}
use Rattle.encoding.proofs.Columns.{head-known}
use Rattle.encoding.proofs.Via.{via}
use Rattle.cursor.specs.Cursor.{entered}
use Rattle.cursor.specs.Kept.{sort_of}
use Rattle.cursor.proofs.Cursors.{enter-head, enter-end}
use Rattle.delta_decoder.specs.Difference.{i64_e}
use Rattle.delta_decoder.proofs.DifferenceLaws.{i64-laws}
use Rattle.delta_cursor.proofs.entered_at.Goals as goal

pub returns-then-column-at : goal.returns-then-column-at
returns-then-column-at c = sym (enter-end i64_e i64-laws _ _ _ c.if-column-at.true)

pub carried_at-requires : goal.carried_at-requires
carried_at-requires c = (head-known _ _ _ _ (via head_of c.head_by_bytes.ensures (c.in_ok-c.was ∙ ap Ok c.in-Repeat.is))).2

pub overflow_add-result : goal.overflow_add-result
overflow_add-result c = let h = head-known _ _ _ _ (via head_of c.head_by_bytes.ensures (c.in_ok-c.was ∙ ap Ok c.in-Literal.is)) in omega arith

pub overflow_add-result-in-Absent : goal.overflow_add-result-in-Absent
overflow_add-result-in-Absent c = let h = head-known _ _ _ _ (via head_of c.head_by_bytes.ensures (c.in_ok-c.was ∙ ap Ok c.in-Absent.is)) in omega arith

pub returns-in-Repeat : goal.returns-in-Repeat
unfolding entered
returns-in-Repeat c = c.carried_at.ensures ∙ sym (enter-head i64_e i64-laws _ _ _ _ c.if-column-at.false (via head_of c.head_by_bytes.ensures (c.in_ok-c.was ∙ ap Ok c.in-Repeat.is)))

pub returns-in-Literal : goal.returns-in-Literal
unfolding entered sort_of
returns-in-Literal c = sym (enter-head i64_e i64-laws _ _ _ _ c.if-column-at.false (via head_of c.head_by_bytes.ensures (c.in_ok-c.was ∙ ap Ok c.in-Literal.is)))

pub returns-in-Absent : goal.returns-in-Absent
unfolding entered sort_of
returns-in-Absent c = sym (enter-head i64_e i64-laws _ _ _ _ c.if-column-at.false (via head_of c.head_by_bytes.ensures (c.in_ok-c.was ∙ ap Ok c.in-Absent.is)))

pub returns-in_err-c : goal.returns-in_err-c
unfolding entered
returns-in_err-c c =
    let p = err_from_is_err_and c.from_residual.result c.from_residual.ensures.1 in
    rw (p.1, p.2) (sym (enter-head i64_e i64-laws _ _ _ _ c.if-column-at.false (via head_of c.head_by_bytes.ensures c.in_err-c.was)))
