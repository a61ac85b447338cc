-- `runs::walk::advanced` meets its contract: the piece so far is the first of what comes behind the one that was held. Assumes nothing.
use mathlib.Core.Path.{◌∙◌}
use Rattle.runs.proofs.Ends.{element_laws}
use Rattle.runs.proofs.Walked.{onto-start, onto-turn, onto-over, onto-there}
use Rattle.runs.proofs.walk.advanced.Goals as goal

pub loop-r-init : goal.loop-r-init
loop-r-init c =
    let a = c.args in
    onto-start _ (element_laws a.values) a.s.now _ _ c.literal_at-r.ensures.onto

pub returns-then-s-r : goal.returns-then-s-r
returns-then-s-r c =
    let a = c.args in
    let o = c.loop-r.invariant in record { going = onto-over _ (element_laws a.values) a.s.now _ _ o c.loop-r-test.true c.if-s-r.true; result_value = o.list ∙ c.literal_at-r.ensures.onto.list }

pub loop-r-smaller : goal.loop-r-smaller
loop-r-smaller c = c.entered-r.ensures.at_in_bounds

pub loop-r-preserved : goal.loop-r-preserved
loop-r-preserved c =
    let a = c.args in
    onto-turn _ (element_laws a.values) a.s.now _ _ _ c.loop-r.invariant c.loop-r-test.true
    c.entered-r.ensures.onto

pub returns : goal.returns
returns c =
    let a = c.args in
    let o = c.loop-r.invariant in
    record { going = onto-there _ (element_laws a.values) a.s.now _ _ o c.loop-r-test.false; result_value = o.list ∙ c.literal_at-r.ensures.onto.list }
