-- `rle_range::put_block_u64` meets its contract: refused, or the column put into the frame. Assumes nothing.
use native.Mathlib.Omega.{arith}
use mathlib.Core.Path.{refl}
use Rattle.std.proofs.lemmas.Result.{err_from_is_err_and}
use Rattle.refusal.proofs.Numbered.{some}
use Rattle.encoding.specs.Given.{slot_list}
use Rattle.splice.specs.Kinds.{integer}
use Rattle.splice.proofs.OptionalEdits.{list_length}
use Rattle.splice.proofs.Writing.{finish-short, finish-room, finish-done}
use Rattle.rle_range.proofs.put_block_u64.Goals as goal

pub returns-in_err-frame : goal.returns-in_err-frame
returns-in_err-frame c =
    let a = c.args in
    let xs = slot_list a.values.now a.present.now in
    let p = err_from_is_err_and c.from_residual.result c.from_residual.ensures.1 in
    rw (p.1, p.2) (finish-short integer c.requires.has_row xs a.out.now c.requires.size_value.1 c.requires.size_value.0 c.in_err-frame.ensures.value c.in_err-frame.ensures.out_after (some c.in_err-frame.field-0.0.0) refl)

pub fill_u64-requires : goal.fill_u64-requires
fill_u64-requires c =
    let a = c.args in
    let xs = slot_list a.values.now a.present.now in
    let m = finish-room integer c.requires.has_row xs a.out.now c.requires.size_value.1 c.requires.size_value.0 c.in_ok-frame.ensures.value c.in_ok-frame.ensures.out_after refl in
    record { good = c.requires.good; narrow = c.requires.size_value.1; room = omega (arith, m.roomy, c.put_frame.auto) }

pub returns : goal.returns
returns c =
    let fill-u64 = c.fill_u64 in
    let a = c.args in
    let xs = slot_list a.values.now a.present.now in
    let m = finish-room integer c.requires.has_row xs a.out.now c.requires.size_value.1 c.requires.size_value.0 c.in_ok-frame.ensures.value c.in_ok-frame.ensures.out_after refl in
    finish-done integer c.requires.has_row xs a.out.now c.requires.size_value.1 c.requires.size_value.0 c.in_ok-frame.ensures.value c.in_ok-frame.ensures.out_after m (omega (arith, c.well_formed)) (omega (arith, c.well_formed))
    (list_length 0 a.values.now a.present.now c.requires.good.even) fill-u64.ensures c.block_answer.ensures
