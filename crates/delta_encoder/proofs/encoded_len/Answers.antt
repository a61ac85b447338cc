-- `delta_encoder::encoded_len` meets its contract: a list that is judged good has a size. Assumes nothing.
use Rattle.std.proofs.lemmas.Result.{err_from_is_err_and}
use Rattle.encoding.specs.Cases.{answer_of}
use Rattle.encoding.proofs.Putting.{sized-refused, sized-done}
use Rattle.encoding.proofs.Via.{via}
use Rattle.delta_encoder.proofs.Writing.{delta-good}
use Rattle.delta_encoder.proofs.encoded_len.Goals as goal

pub column_len-requires : goal.column_len-requires
column_len-requires c = delta-good _ _ _ (via answer_of c.judge.ensures c.in_ok-judge.was)

pub returns : goal.returns
returns c = sized-done _ _ _ _ (via answer_of c.judge.ensures c.in_ok-judge.was) c.column_len.ensures

pub returns-in_err-judge : goal.returns-in_err-judge
returns-in_err-judge c =
    let p = err_from_is_err_and c.from_residual.result c.from_residual.ensures.1 in
    rw (p.1, p.2) (sized-refused _ _ _ _ (via answer_of c.judge.ensures c.in_err-judge.was))
