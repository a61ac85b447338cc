-- `delta_encoder::paired` meets its contract: each way out is a law of looking ahead. Assumes nothing.
use mathlib.Core.Path.{◌∙◌}
use lib.IntN.{pos}
use Rattle.encoding.proofs.Looking.{off-absent, off-other, off-end, paired_yes}
use Rattle.delta_decoder.specs.Difference.{same_z}
use Rattle.delta_decoder.proofs.DifferenceLaws.{i64-laws}
use Rattle.delta_encoder.proofs.Differing.{flags, last_some}
use Rattle.delta_encoder.proofs.Taking.{read_back, passed, below, past, taken, taken-fits, bits-same, bits-other}
use Rattle.delta_encoder.proofs.paired.Goals as goal

pub returns-then-values-n : goal.returns-then-values-n
returns-then-values-n c = let N = c.requires.narrow in off-end same_z (pos 0) _ _ (flags _ _ N.even) _ _ (past _ _ N _ c.if-values-n.true)

pub returns-then-present-n-eq0 : goal.returns-then-present-n-eq0
returns-then-present-n-eq0 c = let N = c.requires.narrow in off-absent same_z (pos 0) _ _ (flags _ _ N.even) _ _ (below _ _ N _ c.if-values-n.false) c.if-present-n-eq0.true

pub overflow_sub-values : goal.overflow_sub-values
overflow_sub-values c =
    let N = c.requires.narrow in
    let h = c.requires.k_in_bounds in
    taken-fits _ _ N _ c.if-values-n.false c.if-present-n-eq0.false (read_back c.t11-1.given)
    (read_back c.t14-1.given ∙ last_some _ _ N.even _ h.0 h.1)

pub overflow_sub-values-2 : goal.overflow_sub-values-2
overflow_sub-values-2 c =
    let h = c.requires.k_in_bounds in
    taken-fits _ _ c.requires.narrow _ h.0 h.1 (read_back c.t18-1.given) (passed c.ranges.last ∙ h.2)

pub returns-then-values-n-2 : goal.returns-then-values-n-2
returns-then-values-n-2 c =
    let N = c.requires.narrow in
    let h = c.requires.k_in_bounds in
    let l = c.if-values-n.false in
    let f = c.if-present-n-eq0.false in
    let x = taken _ _ N _ l f (read_back c.t11-1.given) (read_back c.t14-1.given ∙ last_some _ _ N.even _ h.0 h.1) in
    let y = taken _ _ N _ h.0 h.1 (read_back c.t18-1.given) (passed c.ranges.last ∙ h.2) in
    paired_yes same_z (pos 0) _ _ (flags _ _ N.even) i64-laws.same-eq i64-laws.same_self _ (below _ _ N _ l) h.1 f (bits-same _ _ N _ _ l h.0 x y c.if-values-n-2.true)

pub returns : goal.returns
returns c =
    let N = c.requires.narrow in
    let h = c.requires.k_in_bounds in
    let l = c.if-values-n.false in
    let f = c.if-present-n-eq0.false in
    let x = taken _ _ N _ l f (read_back c.t11-1.given) (read_back c.t14-1.given ∙ last_some _ _ N.even _ h.0 h.1) in
    let y = taken _ _ N _ h.0 h.1 (read_back c.t18-1.given) (passed c.ranges.last ∙ h.2) in
    off-other same_z (pos 0) _ _ (flags _ _ N.even) i64-laws.same-eq i64-laws.same_self _ _ (below _ _ N _ l) f (bits-other _ _ N _ _ l h.0 x y c.if-values-n-2.false)
