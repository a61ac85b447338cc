-- `given_names::judge_names` meets its contract: each way out is a case of its definition. Assumes nothing.
use mathlib.Core.Path.{sym}
use Rattle.std.proofs.lemmas.Result.{err_from_is_err_and}
use Rattle.encoding.specs.Cases.{answer_of}
use Rattle.encoding.proofs.Via.{via}
use Rattle.text.proofs.Givens.{judged-refused, judged-good, judged-long}
use Rattle.given_names.proofs.judge_names.Goals as goal

pub returns-then-starts-le-LIMIT : goal.returns-then-starts-le-LIMIT
returns-then-starts-le-LIMIT c = sym (judged-good _ _ _ _ _ (via answer_of c.check_names.ensures c.in_ok-check_names.was) c.if-starts-le-LIMIT.true)

pub returns : goal.returns
returns c = sym (judged-long _ _ _ _ _ (via answer_of c.check_names.ensures c.in_ok-check_names.was) c.if-starts-le-LIMIT.false)

pub returns-in_err-check_names : goal.returns-in_err-check_names
returns-in_err-check_names c =
    let p = err_from_is_err_and c.from_residual.result c.from_residual.ensures.1 in
    rw (p.1, p.2) (sym (judged-refused _ _ _ _ _ _ (via answer_of c.check_names.ensures c.in_err-check_names.was)))
