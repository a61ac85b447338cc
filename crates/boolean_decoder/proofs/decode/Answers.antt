-- `boolean_decoder::decode` meets its contract: each way out is a case of its definition. Assumes nothing.
use native.Mathlib.Omega.{arith}
use Rattle.std.proofs.lemmas.Result.{err_from_is_err_and}
use Rattle.encoding.specs.Cases.{answer_of}
use Rattle.encoding.proofs.Via.{via}
use Rattle.boolean_decoder.proofs.Decoding.{decode-fault, decode-short, decode-room, decode-done}
use Rattle.boolean_decoder.proofs.decode.Goals as goal

pub returns-in_err-n : goal.returns-in_err-n
returns-in_err-n c =
    let p = err_from_is_err_and c.from_residual.result c.from_residual.ensures.1 in
    rw (p.1, p.2) (decode-fault _ _ _ _ (via answer_of c.count.ensures c.in_err-n.was))

pub returns-then-values-n : goal.returns-then-values-n
returns-then-values-n c =
    decode-short _ _ _ (via answer_of c.count.ensures c.in_ok-n.was) (omega (arith, c.if-values-n.true))

pub fill-requires : goal.fill-requires
fill-requires c =
    let e = via answer_of c.count.ensures c.in_ok-n.was in
    decode-room _ c.args.values.now _ e (omega (arith, c.if-values-n.false))

pub returns : goal.returns
returns c =
    let e = via answer_of c.count.ensures c.in_ok-n.was in
    let w = c.fill.ensures in
    decode-done _ _ _ _ _ e (omega (arith, c.if-values-n.false)) w.values_after w.result_value
