-- `boolean_range::finish_u8` meets its contract: the list is the slots' front. Assumes nothing.
use mathlib.Core.Path.{sym}
use lib.Seq.{length-take-le}
use Rattle.boolean_range.proofs.finish_u8.Goals as goal

pub slice_bounds-write_block_u8-end : goal.slice_bounds-write_block_u8-end
slice_bounds-write_block_u8-end c = sym (length-take-le c.args.len c.args.values.now c.requires.len_in_bounds)

pub write_block_u8-requires : goal.write_block_u8-requires
write_block_u8-requires c = record { has_row = c.requires.has_row; good = c.requires.good }

pub returns : goal.returns
returns c = c.write_block_u8.ensures
