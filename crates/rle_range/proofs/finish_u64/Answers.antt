-- `rle_range::finish_u64` meets its contract: the list is the slots' front. Assumes nothing.
use mathlib.Core.Path.{sym}
use lib.Seq.{length-take-le}
use Rattle.rle_range.proofs.finish_u64.Goals as goal

pub slice_bounds-write_block_u64-end : goal.slice_bounds-write_block_u64-end
slice_bounds-write_block_u64-end c =
    sym (length-take-le c.args.len c.args.values.now c.requires.len_in_bounds.0)

pub slice_bounds-write_block_u64-end-2 : goal.slice_bounds-write_block_u64-end-2
slice_bounds-write_block_u64-end-2 c =
    sym (length-take-le c.args.len c.args.present.now c.requires.len_in_bounds.1)

pub write_block_u64-requires : goal.write_block_u64-requires
write_block_u64-requires c =
    record { has_row = c.requires.has_row; good = c.requires.good }

pub returns : goal.returns
returns c = c.write_block_u64.ensures
