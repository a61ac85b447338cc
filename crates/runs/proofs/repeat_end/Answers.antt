-- `runs::repeat_end` meets its contract: the value ends, or its refusal is passed on. Assumes nothing.
use mathlib.Core.Path.{sym}
use Rattle.std.proofs.lemmas.Result.{err_from_is_err_and}
use Rattle.encoding.proofs.Walking.{next-eq}
use Rattle.encoding.proofs.Columns.{repeated-got, repeated-bad}
use Rattle.runs.proofs.Ends.{ended}
use Rattle.runs.proofs.repeat_end.Goals as goal

pub returns : goal.returns
returns c =
    let a = c.args in
    let r = ended a.values a.s.now a.q c.value_end.ensures c.in_ok-next.was in
    sym (next-eq (repeated-got a.had a.c a.q _ r.0 _ r.1))

pub returns-in_err-next : goal.returns-in_err-next
returns-in_err-next c =
    let a = c.args in
    let p = err_from_is_err_and c.from_residual.result c.from_residual.ensures.1 in
    let r = ended a.values a.s.now a.q c.value_end.ensures c.in_err-next.was in
    rw (p.1, p.2) (sym (next-eq (repeated-bad a.had a.c a.q _ _ _ r)))
