-- `leb128_writer::len_u64` meets its contract. Assumes nothing.
use mathlib.Core.Bool.{false}
use Rattle.leb128_writer.proofs.len_u64.Goals as goal

pub returns : goal.returns
returns c = c.encoded_len.ensures false
