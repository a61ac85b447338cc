-- `counted_table::stored_at` meets its contract. Assumes nothing.
use borrow.Author.Rules.{rules}
use Rattle.counted_table.proofs.Storing.{known-none, known_some, known-beyond}
use Rattle.counted_table.proofs.stored_at.Goals as goal

pub returns-then-position-ge64 : goal.returns-then-position-ge64
returns-then-position-ge64 c = known-beyond c.args.lent c.args.position (search rules) c.if-position-ge64.true

pub returns-then-lent-position-eq0 : goal.returns-then-lent-position-eq0
returns-then-lent-position-eq0 c = known-none c.args.lent c.args.position c.if-lent-position-eq0.true

pub returns : goal.returns
returns c = known_some c.args.lent c.args.position c.if-lent-position-eq0.false
