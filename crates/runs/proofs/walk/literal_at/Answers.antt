-- `runs::walk::literal_at` meets its contract: the value can be read or not, and where there is none the next run comes. Assumes nothing.
use mathlib.Core.Path.{sym, ap, subst}
use native.Mathlib.Omega.{arith}
use Rattle.runs.proofs.Ends.{element_laws, ended, end-near}
use Rattle.runs.specs.Pieces.{Onto}
use Rattle.runs.specs.declared.walk.Piece.{Piece}
use Rattle.runs.proofs.Walked.{onto-none, onto-literal, onto-cut}
use Rattle.runs.proofs.walk.literal_at.Goals as goal

pub returns-then-n-eq0 : goal.returns-then-n-eq0
returns-then-n-eq0 c =
    let a = c.args in
    let e = c.before_run.ensures in record {
      onto = subst (Onto _ _ _) (sym e) (onto-none _ (element_laws a.values) a.s.now a.q a.total a.n c.if-n-eq0.true);
      at_in_bounds = omega
          (arith, ap (λ (p : Piece). p.at) e);
    }

pub returns-in-Ok : goal.returns-in-Ok
returns-in-Ok c =
    let a = c.args in
    let r = ended a.values a.s.now a.q c.value_end.ensures c.in-Ok.is in
    let m = end-near a.values a.s.now a.q _ r in
    record { onto = onto-literal _ (element_laws a.values) a.s.now a.q a.total a.n _ r.0 (omega arith) r.1; at_in_bounds = omega (arith, m.0, m.1) }

pub returns-in-Err : goal.returns-in-Err
returns-in-Err c =
    let a = c.args in
    let e = c.before_run-in-Err.ensures in
    let r = ended a.values a.s.now a.q c.value_end.ensures c.in-Err.is in record {
      onto = subst (Onto _ _ _) (sym e) (onto-cut _ (element_laws a.values) a.s.now a.q a.total a.n _ _ (omega arith) r);
      at_in_bounds = omega
          (arith, ap (λ (p : Piece). p.at) e);
    }
