-- `rle_decoder::decode` meets its contract: one law for each way out. Assumes nothing.
use Rattle.std.proofs.lemmas.Result.{err_from_is_err_and}
use Rattle.encoding.specs.Cases.{answer_of}
use Rattle.encoding.specs.Slots.{slot_of, flag_of}
use Rattle.encoding.proofs.Via.{via}
use Rattle.encoding.proofs.Filling.{decode-uneven, decode-fault, decode-short, decode-room, decode-done}
use Rattle.rle_decoder.proofs.decode.Goals as goal

pub returns-then-values-present : goal.returns-then-values-present
returns-then-values-present c = decode-uneven _ (slot_of 0) flag_of _ _ c.if-values-present.true

pub fill-requires : goal.fill-requires
fill-requires c =
    let e = via answer_of c.count.ensures c.in_ok-due.was in
    decode-room _ (slot_of 0) flag_of _ _ _ c.if-values-present.false e c.if-due-values.true

pub returns-then-due-values : goal.returns-then-due-values
returns-then-due-values c =
    let e = via answer_of c.count.ensures c.in_ok-due.was in
    let w = c.fill.ensures in
    decode-done _ (slot_of 0) flag_of _ _ _ _ _ _ c.if-values-present.false e c.if-due-values.true w.wrote w.result_value

pub returns : goal.returns
returns c =
    let e = via answer_of c.count.ensures c.in_ok-due.was in
    decode-short _ (slot_of 0) flag_of _ _ _ c.if-values-present.false e c.if-due-values.false

pub returns-in_err-due : goal.returns-in_err-due
returns-in_err-due c =
    let p = err_from_is_err_and c.from_residual.result c.from_residual.ensures.1 in
    let e = via answer_of c.count.ensures c.in_err-due.was in
    rw (p.1, p.2) (decode-fault _ (slot_of 0) flag_of _ _ _ _ c.if-values-present.false e)
