-- `delta_encoder::put_number` meets its contract: where there is room, nothing is refused. Assumes nothing.
use Rattle.leb128_writer.specs.Cases.{written_of}
use Rattle.encoding.proofs.Via.{via}
use Rattle.encoding.proofs.Placing.{placed}
use Rattle.delta_encoder.proofs.Writing.{put-ok}
use Rattle.delta_encoder.proofs.put_number.Goals as goal

pub unwrap-requires : goal.unwrap-requires
unwrap-requires c = put-ok _ _ _ c.requires _ c.put_u64.ensures.result_value

pub returns : goal.returns
returns c =
    let e = c.put_u64.ensures in
    placed _ _ _ c.requires _ _ (via written_of e.result_value c.unwrap.ensures) e.out_after
