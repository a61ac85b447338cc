-- `leb128::leb128_u64` meets its contract: a number of one byte, a longer one, or none. Assumes nothing.
use mathlib.Core.Path.{sym, ap, ◌∙◌}
use Prim.Native.Nat.{ℕ, ◌+◌}
use Rattle.leb128.specs.Got.{got}
use Rattle.leb128.proofs.Refusals.{u64-none}
use Rattle.leb128.proofs.Short.{one-u64}
use Rattle.leb128.proofs.leb128_u64.Goals as goal

pub returns-then-b-lt128 : goal.returns-then-b-lt128
returns-then-b-lt128 c =
    let a = c.args in
    ap (λ (v : ℕ). got v (a.at + 1)) c.wide.ensures ∙ one-u64 _ a.at c.if-at-s.true c.if-b-lt128.true

pub returns : goal.returns
returns c = sym (u64-none _ c.args.at c.if-at-s.false)
