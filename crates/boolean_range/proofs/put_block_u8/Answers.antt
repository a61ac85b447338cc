-- `boolean_range::put_block_u8` meets its contract: refused, or the column put into the frame. Assumes nothing.
use native.Mathlib.Omega.{arith}
use mathlib.Core.Path.{refl}
use Rattle.std.proofs.lemmas.Result.{err_from_is_err_and}
use Rattle.refusal.proofs.Numbered.{some}
use Rattle.splice.specs.Kinds.{boolean}
use Rattle.splice.proofs.Writing.{finish-short, finish-room, finish-done}
use Rattle.boolean_range.proofs.put_block_u8.Goals as goal

pub returns-in_err-frame : goal.returns-in_err-frame
returns-in_err-frame c =
    let a = c.args in
    let p = err_from_is_err_and c.from_residual.result c.from_residual.ensures.1 in
    rw (p.1, p.2) (finish-short boolean c.requires.has_row a.values.now a.out.now refl c.requires.size_value c.in_err-frame.ensures.value c.in_err-frame.ensures.out_after (some c.in_err-frame.field-0.0.0) refl)

pub fill_u8-requires : goal.fill_u8-requires
fill_u8-requires c =
    let a = c.args in
    let m = finish-room boolean c.requires.has_row a.values.now a.out.now refl c.requires.size_value c.in_ok-frame.ensures.value c.in_ok-frame.ensures.out_after refl in
    record { good = c.requires.good; narrow = refl; room = omega (arith, m.roomy, c.put_frame.auto) }

pub returns : goal.returns
returns c =
    let fill-u8 = c.fill_u8 in
    let a = c.args in
    let m = finish-room boolean c.requires.has_row a.values.now a.out.now refl c.requires.size_value c.in_ok-frame.ensures.value c.in_ok-frame.ensures.out_after refl in
    finish-done boolean c.requires.has_row a.values.now a.out.now refl c.requires.size_value c.in_ok-frame.ensures.value c.in_ok-frame.ensures.out_after m (omega (arith, c.well_formed)) (omega (arith, c.well_formed)) refl fill-u8.ensures c.block_answer.ensures
