-- `text_encoder::walk::given_at` meets its contract: a name that was judged has its bytes. Assumes nothing.
use Rattle.text_encoder.proofs.Pairs.{given-absent, given-name}
use Rattle.text_encoder.proofs.walk.given_at.Goals as goal

pub returns-then-present-i-eq0 : goal.returns-then-present-i-eq0
returns-then-present-i-eq0 c =
    let p = c.requires in
    given-absent _ _ _ _ _ p.pairs p.i_in_bounds c.if-present-i-eq0.true

pub returns : goal.returns
returns c =
    let p = c.requires in
    given-name _ _ _ _ _ p.pairs p.i_in_bounds c.if-present-i-eq0.false
