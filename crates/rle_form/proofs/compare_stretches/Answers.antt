-- `rle_form::compare_stretches` meets its contract: what is left differs where the whole does. Assumes nothing.
use mathlib.Core.Path.{refl, sym, ◌∙◌, ap}
use Rattle.own_form.specs.Form.{compared}
use Rattle.runs.proofs.Ends.{element_laws}
use Rattle.rle_form.proofs.Turning.{sound-start, turn_end}
use Rattle.rle_form.proofs.compare_stretches.Goals as goal

pub loop-at-init : goal.loop-at-init
loop-at-init c = let a = c.args in (sound-start _ (element_laws a.values) a.s.now c.requires, refl)

pub returns : goal.returns
returns c =
    let a = c.args in
    sym (ap compared (c.loop-at.invariant.1 ∙ turn_end _ (element_laws a.values) a.s.now _ _ c.loop-at-test.false))
