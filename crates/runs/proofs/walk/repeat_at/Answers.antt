-- `runs::walk::repeat_at` meets its contract: the value can be read or not. Assumes nothing.
use mathlib.Core.Path.{sym, ap, subst}
use native.Mathlib.Omega.{arith}
use Rattle.runs.proofs.Ends.{element_laws, ended, end-near}
use Rattle.runs.specs.Pieces.{Onto}
use Rattle.runs.specs.declared.walk.Piece.{Piece}
use Rattle.runs.proofs.Walked.{onto-repeat, onto-unread}
use Rattle.runs.proofs.walk.repeat_at.Goals as goal

pub returns-in-Ok : goal.returns-in-Ok
returns-in-Ok c =
    let a = c.args in
    let r = ended a.values a.s.now a.q c.value_end.ensures c.in-Ok.is in
    let m = end-near a.values a.s.now a.q _ r in
    record { onto = onto-repeat _ (element_laws a.values) a.s.now a.q a.had a.n _ r.0 r.1; at_in_bounds = omega (arith, m.0, m.1) }

pub returns-in-Err : goal.returns-in-Err
returns-in-Err c =
    let a = c.args in
    let e = c.before_run.ensures in
    let r = ended a.values a.s.now a.q c.value_end.ensures c.in-Err.is in
    record { onto = subst (Onto _ _ _) (sym e) (onto-unread _ (element_laws a.values) a.s.now a.q a.had a.n _ _ r); at_in_bounds = omega (arith, ap (λ (p : Piece). p.at) e) }
