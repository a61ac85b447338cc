-- `text_decoder::scan_repeat` meets its contract: the value was read, or its refusal passed on. Assumes nothing.
use mathlib.Core.Path.{sym}
use native.Mathlib.Omega.{arith}
use Rattle.std.proofs.lemmas.Result.{err_from_is_err_and}
use Rattle.encoding.proofs.Via.{via}
use Rattle.encoding.proofs.Walking.{next-eq}
use Rattle.encoding.proofs.Columns.{repeated-got, repeated-bad}
use Rattle.text.proofs.TextLaws.{text-laws}
use Rattle.text_decoder.specs.Cases.{name_of}
use Rattle.text_decoder.proofs.scan_repeat.Goals as goal

pub overflow_add-result : goal.overflow_add-result
overflow_add-result c =
    let r = via (name_of c.args.s.now) c.name_at.ensures c.in_ok-start.was in
    omega (arith, text-laws.within _ _ _ _ r)

pub overflow_add-result-2 : goal.overflow_add-result-2
overflow_add-result-2 c = omega arith

pub returns : goal.returns
returns c =
    let r = via (name_of c.args.s.now) c.name_at.ensures c.in_ok-start.was in
    sym (next-eq (repeated-got _ _ _ _ _ _ r))

pub returns-in_err-start : goal.returns-in_err-start
returns-in_err-start c =
    let p = err_from_is_err_and c.from_residual.result c.from_residual.ensures.1 in
    let r = via (name_of c.args.s.now) c.name_at.ensures c.in_err-start.was in
    rw (p.1, p.2) (sym (next-eq (repeated-bad _ _ _ _ _ _ r)))
