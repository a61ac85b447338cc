-- `rle_form::ahead::stretch_at` meets its contract: absent readings, a value more than once, or literal values. Assumes nothing.
use Rattle.runs.specs.Values.{element_of}
use Rattle.runs.proofs.Ends.{element_laws}
use Rattle.runs.proofs.Held.{absent-true, absent-false}
use Rattle.rle_form.proofs.Looked.{found-absent, found-repeat, found-literal}
use Rattle.rle_form.proofs.ahead.stretch_at.Goals as goal

pub returns-then-is_absent : goal.returns-then-is_absent
returns-then-is_absent c =
    let a = c.args in
    let p = c.requires in
    let k = c.same_run-run.ensures in
    found-absent (element_of a.values).E (element_laws a.values) a.s.now a.p p.0 _ _ k.same_run
    (absent-true _ _ c.is_absent.ensures c.if-is_absent.true)

pub returns-then-run-ge2 : goal.returns-then-run-ge2
returns-then-run-ge2 c =
    let a = c.args in
    let p = c.requires in
    let k = c.same_run-run.ensures in
    found-repeat (element_of a.values).E (element_laws a.values) a.s.now a.p p.0 _ _ k.same_run
    (absent-false _ _ c.is_absent.ensures c.if-is_absent.false) c.if-run-ge2.true

pub returns : goal.returns
returns c =
    let a = c.args in
    let p = c.requires in
    let k = c.same_run-run.ensures in
    let l = c.literal_run-lone.ensures in
    found-literal (element_of a.values).E (element_laws a.values) a.s.now a.p p.0 _ _ k.same_run _ _
    (absent-false _ _ c.is_absent.ensures c.if-is_absent.false)
    c.if-run-ge2.false l.lone_run
