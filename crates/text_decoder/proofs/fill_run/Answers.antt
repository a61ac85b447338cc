-- `text_decoder::fill_run` meets its contract: the run is the one that its head opens. Assumes nothing.
use mathlib.Core.Path.{refl, ◌∙◌, ap}
use native.Mathlib.Omega.{arith}
use Rattle.std.specs.Prelude.{Ok}
use Rattle.std.proofs.lemmas.Result.{err_from_is_err_and}
use Rattle.encoding.specs.Cases.{head_of}
use Rattle.encoding.specs.Column.{absent, run_of}
use Rattle.encoding.specs.Slots.{flag_of}
use Rattle.encoding.proofs.Via.{via}
use Rattle.encoding.proofs.Walking.{readings-eq}
use Rattle.encoding.proofs.Columns.{head-known, run-head}
use Rattle.encoding.proofs.Filling.{room-eq, room-same, wrote-same, wrote_none}
use Rattle.encoding.proofs.Running.{wrote-run}
use Rattle.text.specs.Text.{text_e}
use Rattle.text.specs.Name.{start_of, length_of}
use Rattle.text_decoder.proofs.fill_run.Goals as goal

pub fill_repeat-requires : goal.fill_repeat-requires
unfolding run_of
fill_repeat-requires c =
    let r = via head_of c.head_of.ensures (c.in_ok-c.was ∙ ap Ok c.in-Repeat.is) in
    let h = c.requires in
    let e = run-head text_e _ _ _ _ h.at_in_bounds.0 r in
    record { c_bound = (head-known _ _ _ _ r).2; room = room-eq (readings-eq e) h.room; room_2 = room-eq (readings-eq e) h.room_2 }

pub overflow_add-had : goal.overflow_add-had
overflow_add-had c =
    let r = via head_of c.head_of.ensures (c.in_ok-c.was ∙ ap Ok c.in-Literal.is) in
    let h = head-known _ _ _ _ r in
    omega arith

pub fill_literal-requires : goal.fill_literal-requires
unfolding run_of
fill_literal-requires c =
    let r = via head_of c.head_of.ensures (c.in_ok-c.was ∙ ap Ok c.in-Literal.is) in
    let h = c.requires in
    let e = run-head text_e _ _ _ _ h.at_in_bounds.0 r in
    record { room = room-eq (readings-eq e) h.room; room_2 = room-eq (readings-eq e) h.room_2 }

pub fill_same-requires : goal.fill_same-requires
unfolding run_of
fill_same-requires c =
    let r = via head_of c.head_of.ensures (c.in_ok-c.was ∙ ap Ok c.in-Absent.is) in
    let h = c.requires in
    let e = run-head text_e _ _ _ _ h.at_in_bounds.0 r in
    (room-same _ _ absent (room-eq (readings-eq e) h.room), h.room.even, h.room_2.even)

pub overflow_add-result : goal.overflow_add-result
overflow_add-result c =
    let r = via head_of c.head_of.ensures (c.in_ok-c.was ∙ ap Ok c.in-Absent.is) in
    let h = head-known _ _ _ _ r in
    omega arith

pub returns-in-Repeat : goal.returns-in-Repeat
unfolding run_of
returns-in-Repeat c =
    let r = via head_of c.head_of.ensures (c.in_ok-c.was ∙ ap Ok c.in-Repeat.is) in
    let h = c.requires in
    let e = run-head text_e _ _ _ _ h.at_in_bounds.0 r in
    let w = c.fill_repeat.ensures in
    let u = wrote-run e w.result_value w.wrote in
    let v = wrote-run e w.result_value w.wrote_2 in
    record { result_value = u.0; wrote = u.1; wrote_2 = v.1 }

pub returns-in-Literal : goal.returns-in-Literal
unfolding run_of
returns-in-Literal c =
    let r = via head_of c.head_of.ensures (c.in_ok-c.was ∙ ap Ok c.in-Literal.is) in
    let h = c.requires in
    let e = run-head text_e _ _ _ _ h.at_in_bounds.0 r in
    let w = c.fill_literal.ensures in
    let u = wrote-run e w.result_value w.wrote in
    let v = wrote-run e w.result_value w.wrote_2 in
    record { result_value = u.0; wrote = u.1; wrote_2 = v.1 }

pub returns-in-Absent : goal.returns-in-Absent
unfolding run_of start_of length_of
returns-in-Absent c =
    let r = via head_of c.head_of.ensures (c.in_ok-c.was ∙ ap Ok c.in-Absent.is) in
    let h = c.requires in
    let e = run-head text_e _ _ _ _ h.at_in_bounds.0 r in
    let w = c.fill_same.ensures in
    let k = c.in-Absent.c in
    let u = wrote-run e refl (wrote-same start_of flag_of absent k _ _ _ _ _ w.0 w.2) in
    let v = wrote-run e refl (wrote-same length_of flag_of absent k _ _ _ _ _ w.1 w.2) in
    record { result_value = u.0; wrote = u.1; wrote_2 = v.1 }

pub returns-in_err-c : goal.returns-in_err-c
unfolding run_of
returns-in_err-c c =
    let p = err_from_is_err_and c.from_residual.result c.from_residual.ensures.1 in
    let r = via head_of c.head_of.ensures c.in_err-c.was in
    let h = c.requires in
    let e = run-head text_e _ _ _ _ h.at_in_bounds.0 r in
    let u = wrote-run e refl (wrote_none start_of flag_of _ _ _) in
    let v = wrote-run e refl (wrote_none length_of flag_of _ _ _) in
    rw (p.1, p.2) (record { result_value = u.0; wrote = u.1; wrote_2 = v.1 })
