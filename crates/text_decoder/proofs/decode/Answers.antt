-- `text_decoder::decode` meets its contract: one law for each way out. Assumes nothing.
use Rattle.std.proofs.lemmas.Result.{err_from_is_err_and}
use Rattle.encoding.specs.Cases.{answer_of}
use Rattle.encoding.proofs.Via.{via}
use Rattle.text_decoder.proofs.Filled.{decoded-uneven, decoded-flags, decoded-fault, decoded-short, decoded-room, decoded-done}
use Rattle.text_decoder.proofs.decode.Goals as goal

pub returns-then-starts-lens : goal.returns-then-starts-lens
returns-then-starts-lens c = decoded-uneven _ _ _ _ c.if-starts-lens.true

pub returns-then-lens-present : goal.returns-then-lens-present
returns-then-lens-present c = decoded-flags _ _ _ _ c.if-starts-lens.false c.if-lens-present.true

pub fill-requires : goal.fill-requires
fill-requires c =
    let e = via answer_of c.count.ensures c.in_ok-n.was in
    let both : _ × _ = decoded-room _ _ _ _ c.if-starts-lens.false c.if-lens-present.false _ e c.if-n-lens.true in record { room = both.0; room_2 = both.1 }

pub returns-then-n-lens : goal.returns-then-n-lens
returns-then-n-lens c =
    let e = via answer_of c.count.ensures c.in_ok-n.was in
    let w = c.fill.ensures in
    decoded-done _ _ _ _ c.if-starts-lens.false c.if-lens-present.false _ _ _ _ _ e c.if-n-lens.true w.wrote w.wrote_2 w.result_value

pub returns : goal.returns
returns c =
    let e = via answer_of c.count.ensures c.in_ok-n.was in
    decoded-short _ _ _ _ c.if-starts-lens.false c.if-lens-present.false _ e c.if-n-lens.false

pub returns-in_err-n : goal.returns-in_err-n
returns-in_err-n c =
    let p = err_from_is_err_and c.from_residual.result c.from_residual.ensures.1 in
    let e = via answer_of c.count.ensures c.in_err-n.was in
    rw (p.1, p.2) (decoded-fault _ _ _ _ c.if-starts-lens.false c.if-lens-present.false _ _ e)
