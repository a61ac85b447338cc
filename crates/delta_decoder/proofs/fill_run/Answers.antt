-- `delta_decoder::fill_run` meets its contract: the run is the one that its head opens. Assumes nothing.
use mathlib.Core.Path.{sym, ◌∙◌, ap}
use native.Mathlib.Omega.{arith}
use lib.IntN.{pos}
use Rattle.std.proofs.lemmas.Result.{err_from_is_err_and}
use Rattle.encoding.specs.Cases.{head_of, begins_of}
use Rattle.encoding.specs.Column.{absent}
use Rattle.encoding.specs.Slots.{slot_of, flag_of}
use Rattle.encoding.proofs.Via.{via}
use Rattle.encoding.proofs.Walking.{next-eq, readings-eq}
use Rattle.encoding.proofs.Columns.{head-known}
use Rattle.encoding.proofs.Filling.{room-eq, room-same, wrote-eq, wrote-same, wrote_none}
use Rattle.delta_decoder.proofs.Deltas.{delta-repeat, delta-literal, delta-absent, delta-amiss}
use Rattle.delta_decoder.proofs.fill_run.Goals as goal

pub fill_repeat-requires : goal.fill_repeat-requires
fill_repeat-requires c =
    let h = c.requires in
    let r = via head_of c.head_of.ensures c.in_ok-c.was ∙ ap begins_of c.in-Repeat.is in
    let e = delta-repeat _ _ _ _ _ _ h.at_in_bounds.0 r in
    record { c_bound = (head-known _ _ _ _ r).2; room = room-eq (readings-eq e) h.room; table_value = h.table_value }

pub overflow_add-had : goal.overflow_add-had
overflow_add-had c =
    let h = head-known _ _ _ _ (via head_of c.head_of.ensures c.in_ok-c.was ∙ ap begins_of c.in-Literal.is) in
    omega arith

pub fill_literal-requires : goal.fill_literal-requires
fill_literal-requires c =
    let h = c.requires in
    let r = via head_of c.head_of.ensures c.in_ok-c.was ∙ ap begins_of c.in-Literal.is in
    let e = delta-literal _ _ _ _ _ _ h.at_in_bounds.0 r in
    record { room = room-eq (readings-eq e) h.room; table_value = h.table_value }

pub fill_absent-requires : goal.fill_absent-requires
fill_absent-requires c =
    let h = c.requires in
    let r = via head_of c.head_of.ensures c.in_ok-c.was ∙ ap begins_of c.in-Absent.is in
    let e = delta-absent _ _ _ _ _ _ h.at_in_bounds.0 r in
    (room-same _ _ absent (room-eq (readings-eq e) h.room), h.room.even)

pub overflow_add-result : goal.overflow_add-result
overflow_add-result c =
    let h = head-known _ _ _ _ (via head_of c.head_of.ensures c.in_ok-c.was ∙ ap begins_of c.in-Absent.is) in
    omega arith

pub returns-in-Repeat : goal.returns-in-Repeat
returns-in-Repeat c =
    let h = c.requires in
    let r = via head_of c.head_of.ensures c.in_ok-c.was ∙ ap begins_of c.in-Repeat.is in
    let e = delta-repeat _ _ _ _ _ _ h.at_in_bounds.0 r in
    let w = c.fill_repeat.ensures in
    record { result_value = w.result_value ∙ sym (next-eq e); wrote = wrote-eq (sym (readings-eq e)) w.wrote }

pub returns-in-Literal : goal.returns-in-Literal
returns-in-Literal c =
    let h = c.requires in
    let r = via head_of c.head_of.ensures c.in_ok-c.was ∙ ap begins_of c.in-Literal.is in
    let e = delta-literal _ _ _ _ _ _ h.at_in_bounds.0 r in
    let w = c.fill_literal.ensures in
    record { result_value = w.result_value ∙ sym (next-eq e); wrote = wrote-eq (sym (readings-eq e)) w.wrote }

pub returns-in-Absent : goal.returns-in-Absent
returns-in-Absent c =
    let h = c.requires in
    let r = via head_of c.head_of.ensures c.in_ok-c.was ∙ ap begins_of c.in-Absent.is in
    let e = delta-absent _ _ _ _ _ _ h.at_in_bounds.0 r in
    let w = c.fill_absent.ensures in
    record { result_value = sym (next-eq e); wrote = wrote-eq (sym (readings-eq e)) (wrote-same (slot_of (pos 0)) flag_of absent c.in-Absent.c _ _ _ _ _ w.0 w.1) }

pub returns-in_err-c : goal.returns-in_err-c
returns-in_err-c c =
    let h = c.requires in
    let r = via head_of c.head_of.ensures c.in_err-c.was in
    let e = delta-amiss _ _ _ _ _ _ h.at_in_bounds.0 r in
    let p = err_from_is_err_and c.from_residual.result c.from_residual.ensures.1 in
    record { result_value = rw (p.1, p.2) (sym (next-eq e)); wrote = wrote-eq (sym (readings-eq e)) (wrote_none (slot_of (pos 0)) flag_of _ _ _) }
