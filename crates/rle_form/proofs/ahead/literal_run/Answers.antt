-- `rle_form::ahead::literal_run` meets its contract: so many values equal no neighbour so far. Assumes nothing.
use Rattle.runs.specs.Values.{element_of}
use Rattle.runs.proofs.Ends.{element_laws}
use Rattle.runs.proofs.Held.{absent-true, absent-false}
use Rattle.rle_form.proofs.Looked.{lone-absent, lone-twice, lone-turn, lone-over}
use Rattle.rle_form.proofs.ahead.literal_run.Goals as goal

pub returns-then-is_absent-clause-lone_run : goal.returns-then-is_absent-clause-lone_run
returns-then-is_absent-clause-lone_run c =
    let a = c.args in
    lone-absent (element_of a.values).E (element_laws a.values) a.s.now _ _ _ c.loop-here.invariant c.loop-here-test.true
    (absent-true _ _ c.is_absent.ensures c.if-is_absent.true)

pub returns-then-run-ne1-clause-lone_run : goal.returns-then-run-ne1-clause-lone_run
returns-then-run-ne1-clause-lone_run c =
    let a = c.args in
    lone-twice (element_of a.values).E (element_laws a.values) a.s.now _ _ _ c.loop-here.invariant _ _ c.same_run-run.ensures.going
    (absent-false _ _ c.is_absent.ensures c.if-is_absent.false)
    c.same_run-run.ensures.same_run c.if-run-ne1.true

pub loop-here-preserved : goal.loop-here-preserved
loop-here-preserved c =
    let a = c.args in
    lone-turn (element_of a.values).E (element_laws a.values) a.s.now _ _ _ c.loop-here.invariant _ _ c.same_run-run.ensures.going
    (absent-false _ _ c.is_absent.ensures c.if-is_absent.false)
    c.same_run-run.ensures.same_run c.if-run-ne1.false

pub returns-clause-lone_run : goal.returns-clause-lone_run
returns-clause-lone_run c =
    let a = c.args in
    lone-over (element_of a.values).E (element_laws a.values) a.s.now _ _ _ c.loop-here.invariant c.loop-here-test.false
