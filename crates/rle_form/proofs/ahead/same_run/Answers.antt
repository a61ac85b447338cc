-- `rle_form::ahead::same_run` meets its contract: the reading is passed so many times. Assumes nothing.
use Rattle.runs.specs.Values.{element_of}
use Rattle.runs.proofs.Ends.{element_laws}
use Rattle.rle_form.proofs.Looked.{same_turn}
use Rattle.rle_form.proofs.ahead.same_run.Goals as goal

pub loop-here-preserved : goal.loop-here-preserved
loop-here-preserved c =
    let a = c.args in
    let p = c.requires in
    let k = c.advanced-here-in-loop-here.ensures in
    same_turn (element_of a.values).E (element_laws a.values) a.s.now _ _ _ _ _
    c.loop-here.invariant _ _ c.same_held.ensures
    (c.if-not-same_held.false) k.going k.result_value
