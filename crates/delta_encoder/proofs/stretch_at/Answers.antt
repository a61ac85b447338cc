-- `delta_encoder::stretch_at` meets its contract: each kind of stretch by its law. Assumes nothing.
use mathlib.Core.Path.{◌∙◌}
use lib.IntN.{pos}
use Rattle.encoding.proofs.Looking.{absent-stretch, repeat-stretch, lone}
use Rattle.delta_decoder.specs.Difference.{same_z}
use Rattle.delta_decoder.proofs.DifferenceLaws.{i64-laws}
use Rattle.delta_encoder.proofs.Differing.{flags}
use Rattle.delta_encoder.proofs.Taking.{passed, below}
use Rattle.delta_encoder.proofs.stretch_at.Goals as goal

pub returns-then-present-i-eq0 : goal.returns-then-present-i-eq0
returns-then-present-i-eq0 c =
    let N = c.requires.narrow in
    rw c.absent_end.ensures (absent-stretch same_z (pos 0) _ _ (flags _ _ N.even) _ (below _ _ N _ c.requires.i_in_bounds.0) c.if-present-i-eq0.true)

pub repeat_end-k-requires : goal.repeat_end-k-requires
repeat_end-k-requires c =
    record { narrow = c.requires.narrow; i_in_bounds = (c.requires.i_in_bounds.0, c.if-present-i-eq0.false, passed c.ranges.last ∙ c.requires.i_in_bounds.1) }

pub returns-then-k-i-ge2 : goal.returns-then-k-i-ge2
returns-then-k-i-ge2 c =
    let N = c.requires.narrow in
    repeat-stretch same_z (pos 0) _ _ (flags _ _ N.even) i64-laws.same-eq i64-laws.same_self _ _ c.repeat_end-k.ensures c.if-k-i-ge2.true

pub literal_end-requires : goal.literal_end-requires
literal_end-requires c =
    let N = c.requires.narrow in
    let f = c.if-present-i-eq0.false in
    record { narrow = N; literal_to = lone same_z (pos 0) _ _ (flags _ _ N.even) _ _ (below _ _ N _ c.requires.i_in_bounds.0) f c.if-k-i-ge2.false c.repeat_end-k.ensures; fact = f }
