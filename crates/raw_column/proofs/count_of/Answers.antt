-- `raw_column::count_of` meets its contract: a refusal is passed on, 65 are too many. Assumes nothing.
use borrow.Author.Tests.{lt-ltb}
use Rattle.std.proofs.lemmas.Result.{err_from_is_err_and}
use Rattle.raw_column.specs.Table.{parse}
use Rattle.raw_column.proofs.count_of.Goals as goal

pub returns-in_err-value : goal.returns-in_err-value
unfolding parse
returns-in_err-value c =
    let p = err_from_is_err_and c.from_residual.result c.from_residual.ensures.1 in
    rw (p.1, p.2) (rw (← c.in_err-value.ensures))

pub returns-then-value-gt64 : goal.returns-then-value-gt64
unfolding parse
returns-then-value-gt64 c = rw (← c.in_ok-value.ensures, lt-ltb 64 _ c.if-value-gt64.true)
