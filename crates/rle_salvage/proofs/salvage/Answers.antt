-- `rle_salvage::salvage` meets its contract: one law for each way out, and the size is that of all the readings kept. Assumes nothing.
use lib.ListN.{length}
use Rattle.std.proofs.lemmas.Result.{err_from_is_err_and}
use Rattle.encoding.specs.Cases.{answer_of}
use Rattle.encoding.specs.Column.{trace}
use Rattle.encoding.proofs.Via.{via}
use Rattle.rle_decoder.specs.Word.{u64_e}
use Rattle.salvage.proofs.Saving.{saved-17, saved-8, saved-9}
use Rattle.salvage.proofs.Room.{size-found}
use Rattle.salvage.proofs.Answering.{of_others, saved-served, saved-too-long}
use Rattle.rle_salvage.proofs.Whole.{served, all_words}
use Rattle.rle_salvage.proofs.salvage.Goals as goal

pub returns-then-typ-ne2 : goal.returns-then-typ-ne2
returns-then-typ-ne2 c =
    let a = c.args in
    saved-17 (trace u64_e a.s.now) 0 _ a.values.now a.present.now a.out.now (of_others a.typ c.if-typ-ne1.true c.if-typ-ne2.true)

pub returns-then-values-present : goal.returns-then-values-present
returns-then-values-present c =
    let a = c.args in
    saved-8 (trace u64_e a.s.now) 0 _ a.values.now a.present.now a.out.now (served c.else-typ-ne1.either) c.if-values-present.true

pub returns-then-values-found : goal.returns-then-values-found
returns-then-values-found c =
    let a = c.args in
    saved-9 (trace u64_e a.s.now) 0 _ a.values.now a.present.now a.out.now (served c.else-typ-ne1.either) c.if-values-present.false _
    c.survey-found.ensures c.if-values-found.true

pub save-requires-clause-size_value : goal.save-requires-clause-size_value
save-requires-clause-size_value c =
    let a = c.args in
    size-found (length a.out.now) _ _ (rw (all_words a.s.now _ c.survey-found.ensures) at (via answer_of c.rewritten_len.ensures c.in_ok-size.was))

pub returns : goal.returns
returns c = saved-served (served c.else-typ-ne1.either) c.save.ensures

pub returns-in_err-size : goal.returns-in_err-size
returns-in_err-size c =
    let a = c.args in
    let p = err_from_is_err_and c.from_residual.result c.from_residual.ensures.1 in
    let e = via answer_of c.rewritten_len.ensures c.in_err-size.was in
    let x = rw (all_words a.s.now _ c.survey-found.ensures) at e in
    rw (p.1, p.2) (saved-too-long (trace u64_e a.s.now) 0 a.values.now a.present.now a.out.now _ c.survey-found.ensures _ _ _
    (served c.else-typ-ne1.either) c.if-values-present.false c.if-values-found.false x)
