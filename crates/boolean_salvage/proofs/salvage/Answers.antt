-- `boolean_salvage::salvage` meets its contract: each way out is a case of its definition. Assumes nothing.
use native.Mathlib.Omega.{arith}
use borrow.Author.Tests.{eq-eqb, ne_eqb}
use Rattle.std.proofs.lemmas.Result.{err_from_is_err_and}
use Rattle.encoding.specs.Cases.{answer_of}
use Rattle.encoding.proofs.Via.{via}
use Rattle.boolean_decoder.specs.Turns.{bool_trace}
use Rattle.salvage.proofs.Saving.{turns-17, turns-9}
use Rattle.boolean_salvage.proofs.Keeping.{fresh, fresh-size, save-short, save-served}
use Rattle.boolean_salvage.proofs.salvage.Goals as goal

pub returns-then-typ-ne4 : goal.returns-then-typ-ne4
returns-then-typ-ne4 c =
    let a = c.args in
    let s = a.s.now in
    turns-17 (bool_trace s) (fresh s) a.values.now a.out.now (ne_eqb a.typ 4 c.if-typ-ne4.true)

pub returns-then-values-found : goal.returns-then-values-found
returns-then-values-found c =
    let a = c.args in
    let s = a.s.now in
    let h = eq-eqb a.typ 4 c.if-typ-ne4.false in
    turns-9 (bool_trace s) (fresh s) a.values.now a.out.now h _ c.survey-found.ensures c.if-values-found.true

pub save-requires : goal.save-requires
save-requires c =
    let s = c.args.s.now in
    let k = fresh-size s (via answer_of c.rewritten_turns_len.ensures c.in_ok-size.was) in
    let l = c.if-values-found.false in
    record { found_value = (c.survey-found.ensures, omega (arith, l)); size_value = k }

pub returns : goal.returns
returns c =
    let a = c.args in
    let if1 = c.if-typ-ne4 in
    save-served (eq-eqb a.typ 4 if1.false) c.save.ensures

pub returns-in_err-size : goal.returns-in_err-size
returns-in_err-size c =
    let a = c.args in
    let p = err_from_is_err_and c.from_residual.result c.from_residual.ensures.1 in
    let h = eq-eqb a.typ 4 c.if-typ-ne4.false in
    let l = c.if-values-found.false in
    let q = via answer_of c.rewritten_turns_len.ensures c.in_err-size.was in
    rw (p.1, p.2) (save-short a.s.now a.values.now a.out.now _ c.survey-found.ensures (omega (arith, l)) h q)
