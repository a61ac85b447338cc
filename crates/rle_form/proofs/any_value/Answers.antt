-- `rle_form::any_value` meets its contract: a piece that is absent is passed whole. Assumes nothing.
use mathlib.Core.Path.{sym, ◌∙◌, ap}
use Rattle.encoding.specs.Column.{trace}
use Rattle.encoding.specs.Writer.{any_present}
use Rattle.runs.proofs.Ends.{element_laws}
use Rattle.runs.proofs.Held.{absent-true, absent-false}
use Rattle.rle_form.proofs.Turning.{any_held, any-passed, any-ended}
use Rattle.rle_form.proofs.any_value.Goals as goal

pub returns-then-not-is_absent : goal.returns-then-not-is_absent
unfolding trace
returns-then-not-is_absent c =
    let a = c.args in
    let h = c.loop-p.invariant in
    any_held _ (element_laws a.values) a.s.now _ h.0 c.loop-p-test.true (absent-false _ c.is_absent.result c.is_absent.ensures (c.if-not-is_absent.true))
    ∙ sym (ap any_present (sym c.first-p.ensures.result_value) ∙ h.1)

pub loop-p-preserved : goal.loop-p-preserved
loop-p-preserved c =
    let a = c.args in
    let h = c.loop-p.invariant in
    let k = c.advanced-p.ensures in
    (k.going, h.1 ∙ any-passed _ (element_laws a.values) a.s.now _ h.0 (absent-true _ c.is_absent.result c.is_absent.ensures (c.if-not-is_absent.false)) ∙ ap any_present (sym k.result_value))

pub returns : goal.returns
unfolding trace
returns c =
    let a = c.args in
    let h = c.loop-p.invariant in
    any-ended _ (element_laws a.values) a.s.now _ h.0 c.loop-p-test.false ∙ sym (ap any_present (sym c.first-p.ensures.result_value) ∙ h.1)
