-- `rle_encoder::stretch_at` meets its contract: each kind of stretch by its law. Assumes nothing.
use lib.Dec.{eqb}
use Rattle.encoding.proofs.Looking.{absent-stretch, repeat-stretch, lone}
use Rattle.rle_decoder.proofs.WordLaws.{u64-laws}
use Rattle.rle_encoder.proofs.stretch_at.Goals as goal

pub returns-then-present-i-eq0 : goal.returns-then-present-i-eq0
returns-then-present-i-eq0 c =
    let a = c.requires in
    rw c.absent_end.ensures (absent-stretch eqb 0 _ _ a.1 _ a.0 c.if-present-i-eq0.true)

pub returns-then-k-i-ge2 : goal.returns-then-k-i-ge2
returns-then-k-i-ge2 c =
    let a = c.requires in
    repeat-stretch eqb 0 _ _ a.1 u64-laws.same-eq u64-laws.same_self _ _ c.repeat_end-k.ensures c.if-k-i-ge2.true

pub literal_end-requires : goal.literal_end-requires
literal_end-requires c =
    let a = c.requires in
    record { literal_to = lone eqb 0 _ _ a.1 _ _ a.0 c.if-present-i-eq0.false c.if-k-i-ge2.false c.repeat_end-k.ensures; present_len = a.1 }
