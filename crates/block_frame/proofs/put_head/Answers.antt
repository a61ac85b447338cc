-- `block_frame::put_head` meets its contract: the table, and the earlier columns behind it. Assumes nothing.
use Rattle.encoding.proofs.Putting.{put_two}
use Rattle.block_frame.proofs.put_head.Goals as goal

pub returns : goal.returns
returns c = put_two c.put_table-p.ensures c.put_bytes.ensures
