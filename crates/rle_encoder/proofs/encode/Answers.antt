-- `rle_encoder::encode` meets its contract: refused, too long for the output, or put at its front. Assumes nothing.
use native.Mathlib.Omega.{arith}
use Rattle.std.proofs.lemmas.Result.{err_from_is_err_and}
use Rattle.encoding.specs.Cases.{answer_of}
use Rattle.encoding.proofs.Putting.{judged-good, sized-is, encode-refused, encode-short, encode-done}
use Rattle.encoding.proofs.Via.{via}
use Rattle.rle_encoder.proofs.encode.Goals as goal

pub put_column-requires : goal.put_column-requires
put_column-requires c =
    let e = via answer_of c.encoded_len.ensures c.in_ok-n.was in
    let z = sized-is _ _ _ e in
    record { present_len = judged-good _ _ _ z.1.1; present_in_bounds = omega (arith, z.0, c.if-n-out.true) }

pub returns-then-n-out : goal.returns-then-n-out
returns-then-n-out c =
    let e = via answer_of c.encoded_len.ensures c.in_ok-n.was in
    encode-done _ _ _ _ _ e (omega (arith, c.if-n-out.true)) c.put_column.ensures

pub returns : goal.returns
returns c =
    let e = via answer_of c.encoded_len.ensures c.in_ok-n.was in
    encode-short _ _ _ _ e c.if-n-out.false

pub returns-in_err-n : goal.returns-in_err-n
returns-in_err-n c =
    let p = err_from_is_err_and c.from_residual.result c.from_residual.ensures.1 in
    let e = via answer_of c.encoded_len.ensures c.in_err-n.was in
    rw (p.1, p.2) (encode-refused _ _ _ _ _ e)
