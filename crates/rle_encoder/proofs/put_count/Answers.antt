-- `rle_encoder::put_count` meets its contract: where there is room, nothing is refused. Assumes nothing.
use mir.Syntax.{w64}
use mir.ValLaws.{to_z-of_z}
use Rattle.leb128_writer.specs.Cases.{written_of}
use Rattle.encoding.proofs.Via.{via}
use Rattle.encoding.proofs.Placing.{placed, not-refused}
use Rattle.rle_encoder.proofs.put_count.Goals as goal

pub returns-in-Ok : goal.returns-in-Ok
returns-in-Ok c =
    let e = rw (to_z-of_z w64 c.args.c c.ranges.c) at c.put_i64.ensures in
    placed _ _ _ c.requires _ _ (via written_of e.result_value c.in-Ok.is) e.out_after

pub returns-in-Err : goal.returns-in-Err
returns-in-Err c =
    let e = rw (to_z-of_z w64 c.args.c c.ranges.c) at c.put_i64.ensures in
    absurd (not-refused _ _ _ c.requires _ _ (via written_of e.result_value c.in-Err.is))
