-- `text_decoder::keep` meets its contract: one law for each way out, of the column that ends before its first fault. Assumes nothing.
use mathlib.Core.Path.{sym}
use Rattle.encoding.specs.Column.{trace}
use Rattle.encoding.proofs.Surveying.{survivors}
use Rattle.text.specs.Text.{text_e}
use Rattle.text_decoder.proofs.Filled.{decoded-uneven, decoded-flags, decoded-short, decoded-room, decoded-done}
use Rattle.text_decoder.proofs.keep.Goals as goal

pub returns-then-starts-lens : goal.returns-then-starts-lens
returns-then-starts-lens c = decoded-uneven _ _ _ _ c.if-starts-lens.true

pub returns-then-lens-present : goal.returns-then-lens-present
returns-then-lens-present c = decoded-flags _ _ _ _ c.if-starts-lens.false c.if-lens-present.true

pub fill-requires : goal.fill-requires
fill-requires c =
    let e = survivors (trace text_e _) _ c.survey-n.ensures in
    let both : _ × _ = decoded-room _ _ _ _ c.if-starts-lens.false c.if-lens-present.false _ e c.if-n-lens.true in record { room = both.0; room_2 = both.1 }

pub returns-then-n-lens : goal.returns-then-n-lens
returns-then-n-lens c =
    let e = survivors (trace text_e _) _ c.survey-n.ensures in
    let w = c.fill.ensures in
    decoded-done _ _ _ _ c.if-starts-lens.false c.if-lens-present.false _ _ _ _ _ e c.if-n-lens.true w.wrote w.wrote_2 (sym e)

pub returns : goal.returns
returns c =
    let e = survivors (trace text_e _) _ c.survey-n.ensures in
    decoded-short _ _ _ _ c.if-starts-lens.false c.if-lens-present.false _ e c.if-n-lens.false
