-- `boolean_decoder::keep` meets its contract: what survives is a sound column, and each way out is a case of its decoding. Assumes nothing.
use mathlib.Core.Path.{sym}
use native.Mathlib.Omega.{arith}
use Rattle.encoding.proofs.Surveying.{survivors}
use Rattle.boolean_decoder.specs.Turns.{bool_trace}
use Rattle.boolean_decoder.proofs.Decoding.{decode-short, decode-room, decode-done}
use Rattle.boolean_decoder.proofs.keep.Goals as goal

pub fill-requires : goal.fill-requires
fill-requires c =
    let e = survivors (bool_trace _) _ c.survey-n.ensures in
    decode-room _ c.args.values.now _ e (omega (arith, c.if-n-values.true))

pub returns-then-n-values : goal.returns-then-n-values
returns-then-n-values c =
    let e = survivors (bool_trace _) _ c.survey-n.ensures in
    let if1 = c.if-n-values in
    decode-done _ _ _ _ _ e (omega (arith, if1.true)) c.fill.ensures.values_after (sym e)

pub returns : goal.returns
returns c = decode-short _ _ _ (survivors (bool_trace _) _ c.survey-n.ensures) (omega (arith, c.if-n-values.false))
