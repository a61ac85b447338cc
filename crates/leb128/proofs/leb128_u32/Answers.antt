-- `leb128::leb128_u32` meets its contract. Assumes nothing.

use borrow.Author.Rules.{rules}
use borrow.Author.Tests.{le-leb, lt-leb}
use Rattle.leb128.specs.Read.{u32_at}
use Rattle.leb128.proofs.leb128_u32.Goals as goal

pub returns-then-v-le4294967295 : goal.returns-then-v-le4294967295
unfolding u32_at
returns-then-v-le4294967295 c =
    rw (← c.in_ok-v.ensures, le-leb _ _ c.if-v-le4294967295.true)

pub returns : goal.returns
unfolding u32_at
returns c =
    rw (← c.in_ok-v.ensures, lt-leb _ _ c.if-v-le4294967295.false)

pub returns-in_err-v : goal.returns-in_err-v
unfolding u32_at
returns-in_err-v c = search rules
