-- `delta_decoder::keep` meets its contract: what survives is a sound column, and one law of decoding says each way out. Assumes nothing.
use mathlib.Core.Path.{sym}
use lib.IntN.{pos}
use Rattle.encoding.specs.Slots.{slot_of, flag_of}
use Rattle.encoding.proofs.Filling.{decode-uneven, decode-short, decode-room, decode-done}
use Rattle.encoding.proofs.Surveying.{survivors}
use Rattle.delta_decoder.specs.Sums.{delta_trace}
use Rattle.delta_decoder.proofs.keep.Goals as goal

pub returns-then-values-present : goal.returns-then-values-present
returns-then-values-present c = decode-uneven _ (slot_of (pos 0)) flag_of _ _ c.if-values-present.true

pub fill-requires : goal.fill-requires
fill-requires c =
    let e = survivors (delta_trace _) _ c.survey-n.ensures in
    decode-room _ (slot_of (pos 0)) flag_of _ _ _ c.if-values-present.false e c.if-n-values.true

pub returns-then-n-values : goal.returns-then-n-values
returns-then-n-values c =
    let e = survivors (delta_trace _) _ c.survey-n.ensures in
    decode-done _ (slot_of (pos 0)) flag_of _ _ _ _ _ _ c.if-values-present.false e c.if-n-values.true c.fill.ensures.wrote (sym e)

pub returns : goal.returns
returns c =
    decode-short _ (slot_of (pos 0)) flag_of _ _ _ c.if-values-present.false (survivors (delta_trace _) _ c.survey-n.ensures) c.if-n-values.false
