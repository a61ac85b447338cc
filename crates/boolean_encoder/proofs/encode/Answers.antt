-- `boolean_encoder::encode` meets its contract: each way out is a case of its definition. Assumes nothing.
use native.Mathlib.Omega.{arith}
use Rattle.std.proofs.lemmas.Result.{err_from_is_err_and}
use Rattle.encoding.specs.Cases.{answer_of}
use Rattle.encoding.proofs.Putting.{sized-is, encode-refused, encode-short, encode-done}
use Rattle.encoding.proofs.Via.{via}
use Rattle.boolean_encoder.proofs.Writing.{judged-flags}
use Rattle.boolean_encoder.proofs.encode.Goals as goal

pub returns-in_err-n : goal.returns-in_err-n
returns-in_err-n c =
    let p = err_from_is_err_and c.from_residual.result c.from_residual.ensures.1 in
    rw (p.1, p.2) (encode-refused _ _ _ _ _ (via answer_of c.encoded_len.ensures c.in_err-n.was))

pub returns-then-out-n : goal.returns-then-out-n
returns-then-out-n c =
    let encoded-len = c.encoded_len in
    encode-short _ _ _ _ (via answer_of encoded-len.ensures c.in_ok-n.was) (omega (arith, c.if-out-n.true))

pub put_counts-requires : goal.put_counts-requires
put_counts-requires c =
    let encoded-len = c.encoded_len in
    let e = sized-is _ _ _ (via answer_of encoded-len.ensures c.in_ok-n.was) in
    (judged-flags _ _ _ e.1.1, omega (arith, e.0, c.if-out-n.false))

pub returns : goal.returns
returns c =
    let encoded-len = c.encoded_len in
    let e = via answer_of encoded-len.ensures c.in_ok-n.was in
    encode-done _ _ _ _ _ e (omega (arith, c.if-out-n.false)) c.put_counts.ensures
