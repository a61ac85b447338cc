-- `table_reason::first_compressed` meets its contract: it is the first of which the bit is true. Assumes nothing.
use borrow.Author.Rules.{rules}
use borrow.Author.Tests.{tests}
use Rattle.std.proofs.lemmas.Iterator.{YieldsList-from_slice}
use Rattle.std.proofs.lemmas.Iterator.Search.{position_from_yields_List}
use Rattle.column_specification.specs.Specification.{compressed_of}
use Rattle.table_reason.proofs.Firsts.{compressed-position}
use Rattle.table_reason.proofs.first_compressed.Goals as goal

pub returns : goal.returns
returns c =
    let s = c.args.specs.now in
    rw (← compressed-position s)
    (position_from_yields_List compressed_of _ _ c.position.result c.position.ensures.ran (YieldsList-from_slice s cc) (λ x b q k. search (rules, tests)))
