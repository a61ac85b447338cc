-- `block_frame::put_around` meets its contract: two parts put with room between them. Assumes nothing.
use Rattle.block_frame.proofs.Framing.{put-apart}
use Rattle.block_frame.proofs.put_around.Goals as goal

pub returns : goal.returns
returns c =
    let put-head = c.put_head-at in
    put-apart c.args.size put-head.ensures c.put_bytes.ensures c.requires
