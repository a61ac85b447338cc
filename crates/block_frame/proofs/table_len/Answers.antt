-- `block_frame::table_len` meets its contract: a table is the number of its rows, and the rows. Assumes nothing.
use native.Mathlib.Omega.{arith}
use lib.ListN.{length}
use Rattle.leb128.proofs.Laws.{u64-short}
use Rattle.block_frame.proofs.Storing.{table-length}
use Rattle.block_frame.proofs.table_len.Goals as goal

pub overflow_add-result : goal.overflow_add-result
overflow_add-result c = omega (arith, u64-short (length c.args.specs.now), c.rows_len.ensures.1)

pub returns : goal.returns
returns c =
    let t = table-length c.args.specs.now c.args.lens.now in
    (omega (arith, c.len_u64.ensures, c.rows_len.ensures.0), omega (arith, u64-short (length c.args.specs.now), c.rows_len.ensures.1))
