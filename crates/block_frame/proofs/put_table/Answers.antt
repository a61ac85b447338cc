-- `block_frame::put_table` meets its contract: the number of rows, and the rows behind it. Assumes nothing.
use native.Mathlib.Omega.{arith}
use Rattle.encoding.proofs.Putting.{put_two}
use Rattle.block_frame.specs.Columns.{table_bytes}
use Rattle.block_frame.proofs.Storing.{table-length}
use Rattle.block_frame.proofs.put_table.Goals as goal

pub put_number-p-requires : goal.put_number-p-requires
put_number-p-requires c = omega (arith, table-length c.args.specs.now c.args.lens.now, c.requires)

pub put_rows-requires : goal.put_rows-requires
put_rows-requires c =
    omega (arith, table-length c.args.specs.now c.args.lens.now, c.requires, c.put_number-p.ensures.after, c.put_number-p.auto.out)

pub returns : goal.returns
unfolding table_bytes
returns c = put_two c.put_number-p.ensures c.put_rows.ensures
