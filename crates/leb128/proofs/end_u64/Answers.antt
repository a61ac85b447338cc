-- `leb128::end_u64` meets its contract: a number of one byte, a longer one, or none. Assumes nothing.
use mathlib.Core.Path.{sym, ap}
use Rattle.leb128.specs.Read.{end_of}
use Rattle.leb128.proofs.Refusals.{u64-none}
use Rattle.leb128.proofs.Short.{one-u64}
use Rattle.leb128.proofs.end_u64.Goals as goal

pub returns-then-s-at-lt128 : goal.returns-then-s-at-lt128
returns-then-s-at-lt128 c = ap end_of (one-u64 _ c.args.at c.if-at-s.true c.if-s-at-lt128.true)

pub returns : goal.returns
returns c = sym (ap end_of (u64-none _ c.args.at c.if-at-s.false))
