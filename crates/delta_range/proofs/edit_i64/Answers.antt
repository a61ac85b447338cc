-- `delta_range::edit_i64` meets its contract: the old list loaded, its range replaced, the block written. Assumes nothing.
use lib.IntN.{pos}
use native.Mathlib.Omega.{arith}
use mathlib.Core.Path.{refl}
use Rattle.delta_decoder.specs.Sums.{delta_trace}
use Rattle.splice.specs.Kinds.{delta}
use Rattle.splice.proofs.OptionalEdits.{given-good, optional-fits, optional-good, optional-done}
use Rattle.delta_range.proofs.edit_i64.Goals as goal

pub load_i64-requires : goal.load_i64-requires
load_i64-requires c =
    let r = c.requires.ready in
    (omega (arith, r.located.at_is, r.located.till_is), r.located.ends)

pub replace_i64-requires : goal.replace_i64-requires
replace_i64-requires c =
    let load-i64 = c.load_i64 in
    let a = c.args in
    optional-fits delta delta_trace (λ x. refl) (pos 0) a.new.now a.new_present.now a.values.now a.present.now c.requires.ready c.requires.new_present_value
    load-i64.ensures c.end_in.ensures load-i64.auto.values load-i64.auto.present

pub finish_i64-requires : goal.finish_i64-requires
finish_i64-requires c =
    let replace-i64 = c.replace_i64 in
    let end-in = c.end_in in
    let load-i64 = c.load_i64 in
    let a = c.args in
    let r = c.requires.ready in
    let g = optional-good delta delta_trace (λ x. refl) (pos 0) a.new.now a.new_present.now a.values.now a.present.now r c.requires.new_present_value
    load-i64.ensures end-in.ensures replace-i64.ensures in
    record { has_row = r.located.row; len_in_bounds = (omega (arith, r.new_fits, load-i64.auto, replace-i64.auto), omega (arith, r.new_fits, (given-good _ _ _ a.new_present.now c.requires.new_present_value).even, load-i64.auto, replace-i64.auto)); good = g }

pub returns : goal.returns
returns c =
    let replace-i64 = c.replace_i64 in
    let end-in = c.end_in in
    let load-i64 = c.load_i64 in
    let a = c.args in
    optional-done delta delta_trace (λ x. refl) (pos 0) a.new.now a.new_present.now a.values.now a.present.now c.requires.ready c.requires.new_present_value
    load-i64.ensures end-in.ensures replace-i64.ensures refl c.finish_i64.ensures
