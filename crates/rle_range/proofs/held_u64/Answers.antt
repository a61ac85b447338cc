-- `rle_range::held_u64` meets its contract. Assumes nothing.
use Rattle.splice.proofs.Replacing.{held_none, held-some}
use Rattle.rle_range.proofs.held_u64.Goals as goal

pub returns-then-flag-eq0 : goal.returns-then-flag-eq0
returns-then-flag-eq0 c = held_none 0 c.args.v c.args.flag c.if-flag-eq0.true

pub returns : goal.returns
returns c = held-some 0 c.args.v c.args.flag c.if-flag-eq0.false
