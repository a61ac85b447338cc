-- `rle_range::edit_u64` meets its contract: the old list loaded, its range replaced, the block written. Assumes nothing.
use native.Mathlib.Omega.{arith}
use mathlib.Core.Path.{refl}
use Rattle.encoding.specs.Column.{trace}
use Rattle.rle_decoder.specs.Word.{u64_e}
use Rattle.splice.specs.Kinds.{integer}
use Rattle.splice.proofs.OptionalEdits.{given-good, optional-fits, optional-good, optional-done}
use Rattle.rle_range.proofs.edit_u64.Goals as goal

pub load_u64-requires : goal.load_u64-requires
load_u64-requires c =
    let r = c.requires.ready in
    (omega (arith, r.located.at_is, r.located.till_is), r.located.ends)

pub replace_u64-requires : goal.replace_u64-requires
replace_u64-requires c =
    let load-u64 = c.load_u64 in
    let a = c.args in
    optional-fits integer (trace u64_e) (λ x. refl) 0 a.new.now a.new_present.now a.values.now a.present.now c.requires.ready c.requires.new_present_value
    load-u64.ensures c.end_in.ensures load-u64.auto.values load-u64.auto.present

pub finish_u64-requires : goal.finish_u64-requires
finish_u64-requires c =
    let replace-u64 = c.replace_u64 in
    let end-in = c.end_in in
    let load-u64 = c.load_u64 in
    let a = c.args in
    let r = c.requires.ready in
    let g = optional-good integer (trace u64_e) (λ x. refl) 0 a.new.now a.new_present.now a.values.now a.present.now r c.requires.new_present_value
    load-u64.ensures end-in.ensures replace-u64.ensures in
    record { has_row = r.located.row; len_in_bounds = (omega (arith, r.new_fits, load-u64.auto, replace-u64.auto), omega (arith, r.new_fits, (given-good _ _ _ a.new_present.now c.requires.new_present_value).even, load-u64.auto, replace-u64.auto)); good = g }

pub returns : goal.returns
returns c =
    let replace-u64 = c.replace_u64 in
    let end-in = c.end_in in
    let load-u64 = c.load_u64 in
    let a = c.args in
    optional-done integer (trace u64_e) (λ x. refl) 0 a.new.now a.new_present.now a.values.now a.present.now c.requires.ready c.requires.new_present_value
    load-u64.ensures end-in.ensures replace-u64.ensures refl c.finish_u64.ensures
