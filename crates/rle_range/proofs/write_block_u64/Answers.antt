-- `rle_range::write_block_u64` meets its contract: its size, and then the block. Assumes nothing.
use mathlib.Core.Path.{◌∙◌, refl, sym, ap}
use Rattle.std.proofs.lemmas.Result.{err_from_is_err_and}
use Rattle.encoding.specs.Given.{slot_list, sized}
use Rattle.splice.specs.Kinds.{integer}
use Rattle.splice.proofs.Writing.{good-judged, size-done, finish-refused}
use Rattle.rle_range.proofs.write_block_u64.Goals as goal

pub put_block_u64-requires : goal.put_block_u64-requires
put_block_u64-requires c =
    let a = c.args in
    let W = integer.writes (slot_list a.values.now a.present.now) in
    let e = sym (ap (sized W) (good-judged c.requires.good)) ∙ sym c.in_ok-size.ensures in
    record { has_row = c.requires.has_row; good = c.requires.good; size_value = size-done W _ (integer.wide (slot_list a.values.now a.present.now)) e }

pub returns-in_err-size : goal.returns-in_err-size
returns-in_err-size c =
    let a = c.args in
    let xs = slot_list a.values.now a.present.now in
    let W = integer.writes xs in
    let e = sym (ap (sized W) (good-judged c.requires.good)) ∙ sym c.in_err-size.ensures in
    let p = err_from_is_err_and c.from_residual.result c.from_residual.ensures.1 in
    rw (p.1, p.2) (finish-refused integer c.requires.has_row xs a.out.now _ e refl)
