-- `rle_encoder::encoded_len` meets its contract: a list that is judged good has a size. Assumes nothing.
use Rattle.std.proofs.lemmas.Result.{err_from_is_err_and}
use Rattle.encoding.specs.Cases.{answer_of}
use Rattle.encoding.proofs.Putting.{judged-good, sized-refused, sized-done}
use Rattle.encoding.proofs.Via.{via}
use Rattle.rle_encoder.proofs.encoded_len.Goals as goal

pub column_len-requires : goal.column_len-requires
column_len-requires c =
    let e = via answer_of c.judge_list.ensures c.in_ok-judge_list.was in
    judged-good _ _ _ e

pub returns : goal.returns
returns c =
    let e = via answer_of c.judge_list.ensures c.in_ok-judge_list.was in
    sized-done _ _ _ _ e c.column_len.ensures

pub returns-in_err-judge_list : goal.returns-in_err-judge_list
returns-in_err-judge_list c =
    let p = err_from_is_err_and c.from_residual.result c.from_residual.ensures.1 in
    let e = via answer_of c.judge_list.ensures c.in_err-judge_list.was in
    rw (p.1, p.2) (sized-refused _ _ _ _ e)
