-- `delta_encoder::judge` meets its contract: one law for each way out. Assumes nothing.
use Rattle.std.proofs.lemmas.Result.{err_from_is_err_and}
use Rattle.encoding.specs.Cases.{answer_of, maybe_of}
use Rattle.encoding.proofs.Putting.{judged-good}
use Rattle.encoding.proofs.Via.{via}
use Rattle.delta_encoder.proofs.Writing.{judged-narrow, judged-wide, judged-refused}
use Rattle.delta_encoder.proofs.judge.Goals as goal

pub check_width-requires : goal.check_width-requires
check_width-requires c = (judged-good _ _ _ (via answer_of c.judge_list.ensures c.in_ok-n.was)).0

pub returns-in-None : goal.returns-in-None
returns-in-None c =
    let e = via answer_of c.judge_list.ensures c.in_ok-n.was in
    judged-narrow _ _ _ e (via maybe_of c.check_width.ensures c.in-None.is)

pub returns-in-Some : goal.returns-in-Some
returns-in-Some c =
    let e = via answer_of c.judge_list.ensures c.in_ok-n.was in
    judged-wide _ _ _ _ e (via maybe_of c.check_width.ensures c.in-Some.is)

pub returns-in_err-n : goal.returns-in_err-n
returns-in_err-n c =
    let p = err_from_is_err_and c.from_residual.result c.from_residual.ensures.1 in
    rw (p.1, p.2) (judged-refused c.args.values.now c.args.present.now _ _ (via answer_of c.judge_list.ensures c.in_err-n.was))
