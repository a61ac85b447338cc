-- `rewriting::fed_run` meets its contract: what is owed from a run on is what its head says, and then what is owed behind it. Assumes nothing.
use mathlib.Core.Path.{◌∙◌, ap}
use native.Mathlib.Omega.{arith}
use Rattle.std.specs.Prelude.{Ok}
use Rattle.encoding.specs.Cases.{head_of}
use Rattle.encoding.proofs.Via.{via}
use Rattle.encoding.proofs.Columns.{head-known}
use Rattle.rewriting.specs.Cutter.{fed_all}
use Rattle.runs.specs.Values.{element_of}
use Rattle.rewriting.specs.Values.{plain_e}
use Rattle.runs.proofs.Ends.{element_laws}
use Rattle.rewriting.proofs.Owing.{owed-repeat, owed-literal, owed-amiss, fed-absent}
use Rattle.rewriting.proofs.fed_run.Goals as goal

pub fed_repeat-requires : goal.fed_repeat-requires
fed_repeat-requires c =
    let p = c.requires in
    let h = head-known _ _ _ _ (via head_of c.head_of.ensures (c.in-Ok-Repeat.is ∙ ap Ok c.in-Ok-Repeat.field-0-is)) in
    record { n_bound = (h.2, p.at_in_bounds.2, h.1); kept = p.kept }

pub fed_literals-requires : goal.fed_literals-requires
fed_literals-requires c =
    let h = head-known _ _ _ _ (via head_of c.head_of.ensures (c.in-Ok-Literal.is ∙ ap Ok c.in-Ok-Literal.field-0-is)) in
    record { n_bound = (h.2, h.1); kept = c.requires.kept }

pub fed_same-requires : goal.fed_same-requires
fed_same-requires c =
    let k = c.requires.kept in
    let h = head-known _ _ _ _ (via head_of c.head_of.ensures (c.in-Ok-Absent.is ∙ ap Ok c.in-Ok-Absent.field-0-is)) in
    (k.inside, tt, omega (arith, k.few, h.2))

pub overflow_add-result : goal.overflow_add-result
overflow_add-result c =
    let h = head-known _ _ _ _ (via head_of c.head_of.ensures (c.in-Ok-Absent.is ∙ ap Ok c.in-Ok-Absent.field-0-is)) in
    omega (arith, h.2)

pub returns-in-Ok-Repeat : goal.returns-in-Ok-Repeat
returns-in-Ok-Repeat c =
    let a = c.args in
    let s = a.s.now in
    let E = (element_of a.values).E in
    let L = element_laws a.values in
    let p = c.requires in
    let r = via head_of c.head_of.ensures (c.in-Ok-Repeat.is ∙ ap Ok c.in-Ok-Repeat.field-0-is) in
    let h = head-known _ _ _ _ r in
    let f = c.fed_repeat.ensures in record { had_value = ap (fed_all plain_e a.room _) (owed-repeat E s a.most L _ _ p.at_in_bounds.0 _ _ r) ∙ f.q_value; kept_2 = (f.kept_2.0, f.kept_2.1, omega (arith, h.0, f.kept_2.2)) }

pub returns-in-Ok-Literal : goal.returns-in-Ok-Literal
returns-in-Ok-Literal c =
    let a = c.args in
    let s = a.s.now in
    let E = (element_of a.values).E in
    let L = element_laws a.values in
    let p = c.requires in
    let r = via head_of c.head_of.ensures (c.in-Ok-Literal.is ∙ ap Ok c.in-Ok-Literal.field-0-is) in
    let h = head-known _ _ _ _ r in
    let f = c.fed_literals.ensures in record { had_value = ap (fed_all plain_e a.room _) (owed-literal E s a.most L _ _ p.at_in_bounds.0 _ _ r) ∙ f.q_value; kept_2 = (f.kept_2.0, f.kept_2.1, omega (arith, h.0, f.kept_2.2)) }

pub returns-in-Ok-Absent : goal.returns-in-Ok-Absent
returns-in-Ok-Absent c =
    let a = c.args in
    let s = a.s.now in
    let E = (element_of a.values).E in
    let L = element_laws a.values in
    let p = c.requires in
    let r = via head_of c.head_of.ensures (c.in-Ok-Absent.is ∙ ap Ok c.in-Ok-Absent.field-0-is) in
    let h = head-known _ _ _ _ r in
    let f = c.fed_same.ensures in record { had_value = fed-absent E L s a.most a.room _ _ _ _ _ _ p.at_in_bounds.0 r f.result_value; kept_2 = (record { inside = f.within.0; few = omega (arith, f.within.1, p.kept.few) }, h.2, h.0) }

pub returns-in-Err : goal.returns-in-Err
returns-in-Err c =
    let a = c.args in
    let s = a.s.now in
    let E = (element_of a.values).E in
    let L = element_laws a.values in
    let p = c.requires in
    let r = via head_of c.head_of.ensures c.in-Err.is in record { had_value = ap (fed_all plain_e a.room _) (owed-amiss E s a.most L _ _ p.at_in_bounds.0 _ _ r); kept_2 = (p.kept, p.at_in_bounds.1, p.at_in_bounds.0) }
