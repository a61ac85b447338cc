-- `boolean_encoder::put_number` meets its contract: there is room, so it is stored and not refused. Assumes nothing.
use Rattle.leb128_writer.specs.Cases.{written_of}
use Rattle.encoding.proofs.Via.{via}
use Rattle.encoding.proofs.Placing.{placed, not-refused}
use Rattle.boolean_encoder.proofs.put_number.Goals as goal

pub returns-in-Ok : goal.returns-in-Ok
returns-in-Ok c =
    let put-u64 = c.put_u64 in
    placed _ _ _ c.requires _ _
    (via written_of put-u64.ensures.result_value c.in-Ok.is) put-u64.ensures.out_after

pub returns-in-Err : goal.returns-in-Err
returns-in-Err c =
    let put-u64 = c.put_u64 in
    absurd (not-refused _ _ _ c.requires _ _
    (via written_of put-u64.ensures.result_value c.in-Err.is))
