-- `text_encoder::writing::put_number` meets its contract: where there is room, nothing is refused. Assumes nothing.
use Rattle.leb128_writer.specs.Cases.{written_of}
use Rattle.encoding.proofs.Via.{via}
use Rattle.encoding.proofs.Placing.{placed, not-refused}
use Rattle.text_encoder.proofs.writing.put_number.Goals as goal

pub returns-in-Ok : goal.returns-in-Ok
returns-in-Ok c =
    let e = c.put_u64.ensures in
    let n = via written_of e.result_value c.in-Ok.is in
    placed _ _ _ c.requires _ _ n e.out_after

pub returns-in-Err : goal.returns-in-Err
returns-in-Err c =
    let e = via written_of c.put_u64.ensures.result_value c.in-Err.is in
    absurd (not-refused _ _ _ c.requires _ _ e)
