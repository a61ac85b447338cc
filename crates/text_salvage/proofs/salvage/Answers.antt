-- `text_salvage::salvage` meets its contract: each way out is a case of its definition. Assumes nothing.
use native.Mathlib.Omega.{arith}
use borrow.Author.Tests.{eq-eqb, ne_eqb}
use Rattle.std.proofs.lemmas.Result.{err_from_is_err_and}
use Rattle.encoding.specs.Cases.{answer_of}
use Rattle.encoding.specs.Column.{trace}
use Rattle.encoding.proofs.Via.{via}
use Rattle.text.specs.Text.{text_e}
use Rattle.salvage.proofs.Saving.{names-17, names-8, names-8-flags, names-9}
use Rattle.text_salvage.proofs.Keeping.{fresh, fresh-size, save-short, save-served}
use Rattle.text_salvage.proofs.salvage.Goals as goal

pub returns-then-typ-ne5 : goal.returns-then-typ-ne5
returns-then-typ-ne5 c =
    let a = c.args in
    let s = a.s.now in
    names-17 (trace text_e s) (fresh s) a.starts.now a.lens.now a.present.now a.out.now (ne_eqb a.typ 5 c.if-typ-ne5.true)

pub returns-then-starts-lens : goal.returns-then-starts-lens
returns-then-starts-lens c =
    let a = c.args in
    let s = a.s.now in
    let h = eq-eqb a.typ 5 c.if-typ-ne5.false in
    names-8 (trace text_e s) (fresh s) a.starts.now a.lens.now a.present.now a.out.now h c.if-starts-lens.true

pub returns-then-lens-present : goal.returns-then-lens-present
returns-then-lens-present c =
    let a = c.args in
    let s = a.s.now in
    let h = eq-eqb a.typ 5 c.if-typ-ne5.false in
    names-8-flags (trace text_e s) (fresh s) a.starts.now a.lens.now a.present.now a.out.now h c.if-starts-lens.false c.if-lens-present.true

pub returns-then-lens-found : goal.returns-then-lens-found
returns-then-lens-found c =
    let a = c.args in
    let s = a.s.now in
    names-9 (trace text_e s) (fresh s) a.starts.now a.lens.now a.present.now a.out.now
    (eq-eqb a.typ 5 c.if-typ-ne5.false) c.if-starts-lens.false c.if-lens-present.false _ c.survey-found.ensures c.if-lens-found.true

pub save-requires : goal.save-requires
save-requires c =
    let s = c.args.s.now in
    let k = fresh-size s _ c.survey-found.ensures (via answer_of c.rewritten_len.ensures c.in_ok-size.was) in
    record { found_value = (c.survey-found.ensures, omega (arith, c.if-lens-found.false)); starts_len = (c.if-starts-lens.false, c.if-lens-present.false); size_value = k }

pub returns : goal.returns
returns c =
    save-served (eq-eqb c.args.typ 5 c.if-typ-ne5.false) c.save.ensures

pub returns-in_err-size : goal.returns-in_err-size
returns-in_err-size c =
    let a = c.args in
    let p = err_from_is_err_and c.from_residual.result c.from_residual.ensures.1 in
    let q = via answer_of c.rewritten_len.ensures c.in_err-size.was in
    rw (p.1, p.2) (save-short a.s.now a.starts.now a.lens.now a.present.now a.out.now c.if-starts-lens.false c.if-lens-present.false _
    c.survey-found.ensures (omega (arith, c.if-lens-found.false)) (eq-eqb a.typ 5 c.if-typ-ne5.false) q)
