-- `picture::stretches::with_value` meets its contract: the first value, or one behind others. Assumes nothing.
use Rattle.picture.proofs.Ranges.{value-first, value-more}
use borrow.Author.Rules.{rules}
use Rattle.picture.proofs.stretches.with_value.Goals as goal

pub returns-then-s-eq0 : goal.returns-then-s-eq0
returns-then-s-eq0 c = value-first c.args.s c.args.value (search rules)

pub returns : goal.returns
returns c =
    let a = c.args in
    value-more a.s a.value (search rules) _ _ _ c.least.ensures c.greatest.ensures c.one_more.ensures
