-- `delta_encoder::put_signed` meets its contract: where there is room, nothing is refused. Assumes nothing.
use mir.Syntax.{w64}
use mir.ValLaws.{to_z-of_z}
use Rattle.leb128_writer.specs.Cases.{written_of}
use Rattle.encoding.proofs.Via.{via}
use Rattle.encoding.proofs.Placing.{placed}
use Rattle.delta_encoder.proofs.Writing.{put-ok}
use Rattle.delta_encoder.proofs.put_signed.Goals as goal

pub unwrap-requires : goal.unwrap-requires
unwrap-requires c =
    let e = rw (to_z-of_z w64 c.args.x c.ranges.x) at c.put_i64.ensures in
    put-ok _ _ _ c.requires _ e.result_value

pub returns : goal.returns
returns c =
    let e = rw (to_z-of_z w64 c.args.x c.ranges.x) at c.put_i64.ensures in
    placed _ _ _ c.requires _ _ (via written_of e.result_value c.unwrap.ensures) e.out_after
