-- `boolean_range::edit_u8` meets its contract: the old list loaded, its range replaced, the block written. Assumes nothing.
use native.Mathlib.Omega.{arith}
use Rattle.splice.proofs.BooleanEdits.{boolean-good, boolean-done}
use Rattle.boolean_range.proofs.edit_u8.Goals as goal

pub load_u8-requires : goal.load_u8-requires
load_u8-requires c =
    let r = c.requires.ready in
    (omega (arith, r.located.at_is, r.located.till_is), r.located.ends)

pub finish_u8-requires : goal.finish_u8-requires
finish_u8-requires c =
    let end-in = c.end_in in
    let load-u8 = c.load_u8 in
    let a = c.args in
    let r = c.requires.ready in
    let g = boolean-good a.new.now a.values.now r c.requires.value load-u8.ensures load-u8.auto.values end-in.ensures c.splice.ensures.s_after in
    record { has_row = r.located.row; len_in_bounds = omega (arith, r.new_fits, load-u8.auto, c.splice.auto); good = g }

pub returns : goal.returns
returns c =
    let end-in = c.end_in in
    let load-u8 = c.load_u8 in
    let a = c.args in
    boolean-done a.new.now a.values.now c.requires.ready c.requires.value load-u8.ensures load-u8.auto.values end-in.ensures c.splice.ensures.s_after
    c.finish_u8.ensures
