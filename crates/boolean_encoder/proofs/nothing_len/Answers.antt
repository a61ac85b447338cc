-- `boolean_encoder::nothing_len` meets its contract: no bytes of a list that is judged good. Assumes nothing.
use mathlib.Core.Path.{refl}
use Rattle.std.proofs.lemmas.Result.{err_from_is_err_and}
use Rattle.encoding.specs.Cases.{answer_of}
use Rattle.encoding.proofs.Putting.{sized-refused, sized-done}
use Rattle.encoding.proofs.Via.{via}
use Rattle.boolean_encoder.proofs.nothing_len.Goals as goal

pub returns : goal.returns
returns c = sized-done _ _ _ _ (via answer_of c.judge_list.ensures c.in_ok-judge_list.was) refl

pub returns-in_err-judge_list : goal.returns-in_err-judge_list
returns-in_err-judge_list c =
    let p = err_from_is_err_and c.from_residual.result c.from_residual.ensures.1 in
    rw (p.1, p.2) (sized-refused _ _ _ _ (via answer_of c.judge_list.ensures c.in_err-judge_list.was))
