-- `boolean_encoder::encoded_len` meets its contract: the size of a list that is judged good. Assumes nothing.
use Rattle.std.proofs.lemmas.Result.{err_from_is_err_and}
use Rattle.encoding.specs.Cases.{answer_of}
use Rattle.encoding.proofs.Putting.{judged-good, sized-refused, sized-done}
use Rattle.encoding.proofs.Via.{via}
use Rattle.boolean_encoder.proofs.Writing.{judged-flags}
use Rattle.boolean_encoder.proofs.encoded_len.Goals as goal

pub counts_len-requires : goal.counts_len-requires
counts_len-requires c =
    let e = via answer_of c.judge_list.ensures c.in_ok-judge_list.was in
    (judged-flags _ _ _ e, (judged-good _ _ _ e).1)

pub returns : goal.returns
returns c =
    let judge-list = c.judge_list in
    sized-done _ _ _ _ (via answer_of judge-list.ensures c.in_ok-judge_list.was) c.counts_len.ensures

pub returns-in_err-judge_list : goal.returns-in_err-judge_list
returns-in_err-judge_list c =
    let p = err_from_is_err_and c.from_residual.result c.from_residual.ensures.1 in
    rw (p.1, p.2) (sized-refused _ _ _ _ (via answer_of c.judge_list.ensures c.in_err-judge_list.was))
