-- `leb128::fill_of` meets its contract. Assumes nothing.
use borrow.Author.Tests.{lt-ltb, le-ltb}
use Rattle.leb128.proofs.fill_of.Goals as goal

pub returns-then-b-lt64 : goal.returns-then-b-lt64
returns-then-b-lt64 c = rw (lt-ltb _ _ c.if-b-lt64.true)

pub returns-else-b-lt64 : goal.returns-else-b-lt64
returns-else-b-lt64 c = rw (le-ltb _ _ c.if-b-lt64.false)
