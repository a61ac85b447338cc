-- `delta_range::finish_i64` meets its contract: the list is the slots' front. Assumes nothing.
use mathlib.Core.Path.{sym}
use lib.Seq.{length-take-le}
use Rattle.delta_range.proofs.finish_i64.Goals as goal

pub slice_bounds-write_block_i64-end : goal.slice_bounds-write_block_i64-end
slice_bounds-write_block_i64-end c =
    sym (length-take-le c.args.len c.args.values.now c.requires.len_in_bounds.0)

pub slice_bounds-write_block_i64-end-2 : goal.slice_bounds-write_block_i64-end-2
slice_bounds-write_block_i64-end-2 c =
    sym (length-take-le c.args.len c.args.present.now c.requires.len_in_bounds.1)

pub write_block_i64-requires : goal.write_block_i64-requires
write_block_i64-requires c =
    record { has_row = c.requires.has_row; good = c.requires.good }

pub returns : goal.returns
returns c = c.write_block_i64.ensures
