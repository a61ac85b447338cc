-- `boolean_cursor::ready_at` meets its contract: what is ready from each state that is entered is what is ready from the first. Assumes nothing.
use mathlib.Core.Path.{refl, sym, ◌∙◌, ap}
use native.Mathlib.Omega.{arith}
use Rattle.std.proofs.lemmas.Result.{err_from_is_err_and}
use Rattle.std.specs.Prelude.{Ok}
use Rattle.encoding.proofs.Via.{via}
use Rattle.boolean_cursor.proofs.TurnCursors.{enter-falls, ready-left, ready-into}
use Rattle.boolean_cursor.specs.Cases.{next_of}
use Rattle.boolean_cursor.proofs.ready_at.Goals as goal

pub loop-c-init : goal.loop-c-init
loop-c-init c = refl

pub loop-c-smaller : goal.loop-c-smaller
loop-c-smaller c = enter-falls _ _ _ _ _ (via next_of c.entered_at.ensures (c.in_ok-d.was ∙ ap Ok c.in-Some.is))

pub loop-c-preserved : goal.loop-c-preserved
loop-c-preserved c = c.loop-c.invariant ∙ ready-into _ _ _ c.loop-c-test.true (via next_of c.entered_at.ensures (c.in_ok-d.was ∙ ap Ok c.in-Some.is))

pub returns-in-None : goal.returns-in-None
returns-in-None c =
    sym (c.loop-c.invariant ∙ ready-into _ _ _ c.loop-c-test.true (via next_of c.entered_at.ensures (c.in_ok-d.was ∙ ap Ok c.in-None.is)))

pub returns-in_err-d : goal.returns-in_err-d
returns-in_err-d c =
    let p = err_from_is_err_and c.from_residual.result c.from_residual.ensures.1 in
    rw (p.1, p.2) (sym (c.loop-c.invariant ∙ ready-into _ _ _ c.loop-c-test.true (via next_of c.entered_at.ensures c.in_err-d.was)))

pub returns : goal.returns
returns c = sym (c.loop-c.invariant ∙ ready-left _ _ (omega (arith, c.loop-c-test.false)))
