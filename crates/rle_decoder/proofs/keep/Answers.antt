-- `rle_decoder::keep` meets its contract: one law for each way out, of the column that ends before its first fault. Assumes nothing.
use mathlib.Core.Path.{sym}
use Rattle.encoding.specs.Column.{trace}
use Rattle.encoding.specs.Slots.{slot_of, flag_of}
use Rattle.encoding.proofs.Filling.{decode-uneven, decode-short, decode-room, decode-done}
use Rattle.encoding.proofs.Surveying.{survivors}
use Rattle.rle_decoder.specs.Word.{u64_e}
use Rattle.rle_decoder.proofs.keep.Goals as goal

pub returns-then-values-present : goal.returns-then-values-present
returns-then-values-present c = decode-uneven _ (slot_of 0) flag_of _ _ c.if-values-present.true

pub fill-requires : goal.fill-requires
fill-requires c =
    let e = survivors (trace u64_e _) _ c.survey-n.ensures in
    decode-room _ (slot_of 0) flag_of _ _ _ c.if-values-present.false e c.if-n-values.true

pub returns-then-n-values : goal.returns-then-n-values
returns-then-n-values c =
    let e = survivors (trace u64_e _) _ c.survey-n.ensures in
    decode-done _ (slot_of 0) flag_of _ _ _ _ _ _ c.if-values-present.false e c.if-n-values.true c.fill.ensures.wrote (sym e)

pub returns : goal.returns
returns c =
    let e = survivors (trace u64_e _) _ c.survey-n.ensures in
    decode-short _ (slot_of 0) flag_of _ _ _ c.if-values-present.false e c.if-n-values.false
