-- `delta_salvage::salvage` meets its contract: one law for each way out, and the size is that of all the readings kept. Assumes nothing.
use lib.IntN.{pos}
use lib.ListN.{length}
use borrow.Author.Tests.{eq-eqb, ne_eqb}
use Rattle.std.proofs.lemmas.Result.{err_from_is_err_and}
use Rattle.encoding.specs.Cases.{answer_of}
use Rattle.encoding.proofs.Via.{via}
use Rattle.delta_decoder.specs.Sums.{delta_trace}
use Rattle.salvage.proofs.Saving.{saved-17, saved-8, saved-9}
use Rattle.salvage.proofs.Room.{size-found}
use Rattle.salvage.proofs.Answering.{saved-served, saved-too-long}
use Rattle.delta_salvage.proofs.Whole.{all-differences}
use Rattle.delta_salvage.proofs.salvage.Goals as goal

pub returns-then-typ-ne3 : goal.returns-then-typ-ne3
returns-then-typ-ne3 c =
    let a = c.args in
    saved-17 (delta_trace a.s.now) (pos 0) _ a.values.now a.present.now a.out.now (ne_eqb a.typ 3 c.if-typ-ne3.true)

pub returns-then-values-present : goal.returns-then-values-present
returns-then-values-present c =
    let a = c.args in
    saved-8 (delta_trace a.s.now) (pos 0) _ a.values.now a.present.now a.out.now (eq-eqb _ 3 c.if-typ-ne3.false) c.if-values-present.true

pub returns-then-values-found : goal.returns-then-values-found
returns-then-values-found c =
    let a = c.args in
    saved-9 (delta_trace a.s.now) (pos 0) _ a.values.now a.present.now a.out.now (eq-eqb _ 3 c.if-typ-ne3.false) c.if-values-present.false _
    c.survey-found.ensures c.if-values-found.true

pub save-requires-clause-size_value : goal.save-requires-clause-size_value
save-requires-clause-size_value c =
    let a = c.args in
    size-found (length a.out.now) _ _ (rw (all-differences a.s.now _ c.survey-found.ensures) at (via answer_of c.rewritten_len.ensures c.in_ok-size.was))

pub returns : goal.returns
returns c = saved-served (eq-eqb _ 3 c.if-typ-ne3.false) c.save.ensures

pub returns-in_err-size : goal.returns-in_err-size
returns-in_err-size c =
    let a = c.args in
    let p = err_from_is_err_and c.from_residual.result c.from_residual.ensures.1 in
    let e = via answer_of c.rewritten_len.ensures c.in_err-size.was in
    let x = rw (all-differences a.s.now _ c.survey-found.ensures) at e in
    rw (p.1, p.2) (saved-too-long (delta_trace a.s.now) (pos 0) a.values.now a.present.now a.out.now _ c.survey-found.ensures _ _ _
    (eq-eqb _ 3 c.if-typ-ne3.false) c.if-values-present.false c.if-values-found.false x)
