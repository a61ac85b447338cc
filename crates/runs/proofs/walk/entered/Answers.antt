-- `runs::walk::entered` meets its contract: the run is the one that its head opens. Assumes nothing.
use mathlib.Core.Path.{sym, ◌∙◌, ap, subst}
use native.Mathlib.Omega.{arith}
use Rattle.std.specs.Prelude.{Ok}
use Rattle.encoding.specs.Cases.{head_of}
use Rattle.encoding.specs.Column.{run_of}
use Rattle.encoding.proofs.Columns.{head-known}
use Rattle.encoding.proofs.Via.{via}
use Rattle.runs.proofs.Ends.{element_laws}
use Rattle.runs.specs.Pieces.{Onto}
use Rattle.runs.proofs.Walked.{into, into-absent, into-fault}
use Rattle.runs.proofs.walk.entered.Goals as goal

pub repeat_at-requires : goal.repeat_at-requires
repeat_at-requires c = (head-known _ _ _ _ (via head_of c.head_at.ensures (c.in-Ok-Repeat.is ∙ ap Ok c.in-Ok-Repeat.field-0-is))).2

pub overflow_add-had : goal.overflow_add-had
overflow_add-had c = let h = head-known _ _ _ _ (via head_of c.head_at.ensures (c.in-Ok-Literal.is ∙ ap Ok c.in-Ok-Literal.field-0-is)) in omega arith

pub overflow_add-result : goal.overflow_add-result
overflow_add-result c = let h = head-known _ _ _ _ (via head_of c.head_at.ensures (c.in-Ok-Absent.is ∙ ap Ok c.in-Ok-Absent.field-0-is)) in omega arith

pub returns-in-Ok-Repeat : goal.returns-in-Ok-Repeat
unfolding run_of
returns-in-Ok-Repeat c =
    let a = c.args in
    let e = via head_of c.head_at.ensures (c.in-Ok-Repeat.is ∙ ap Ok c.in-Ok-Repeat.field-0-is) in
    let h = head-known _ _ _ _ e in record { onto = into _ (element_laws a.values) a.s.now a.at a.had c.requires _ _ e c.repeat_at.ensures.onto; at_in_bounds = omega (arith, h.0, h.1, c.repeat_at.ensures.at_in_bounds) }

pub returns-in-Ok-Literal : goal.returns-in-Ok-Literal
unfolding run_of
returns-in-Ok-Literal c =
    let a = c.args in
    let e = via head_of c.head_at.ensures (c.in-Ok-Literal.is ∙ ap Ok c.in-Ok-Literal.field-0-is) in
    let h = head-known _ _ _ _ e in record { onto = into _ (element_laws a.values) a.s.now a.at a.had c.requires _ _ e c.literal_at.ensures.onto; at_in_bounds = omega (arith, h.0, h.1, c.literal_at.ensures.at_in_bounds) }

pub returns-in-Ok-Absent : goal.returns-in-Ok-Absent
returns-in-Ok-Absent c =
    let a = c.args in
    let e = via head_of c.head_at.ensures (c.in-Ok-Absent.is ∙ ap Ok c.in-Ok-Absent.field-0-is) in
    let h = head-known _ _ _ _ e in
    record { onto = into-absent _ (element_laws a.values) a.s.now a.at a.had c.requires _ _ e; at_in_bounds = omega (arith, h.0, h.1) }

pub returns-in-Err-clause-onto : goal.returns-in-Err-clause-onto
returns-in-Err-clause-onto c =
    let a = c.args in
    let e = via head_of c.head_at.ensures c.in-Err.is in
    subst (Onto _ _ _) (sym c.before_run.ensures) (into-fault _ (element_laws a.values) a.s.now a.at a.had c.requires _ _ e)
