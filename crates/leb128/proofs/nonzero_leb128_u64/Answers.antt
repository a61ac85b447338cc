-- `leb128::nonzero_leb128_u64` meets its contract: no number, 0, another of one byte, or a longer one. Assumes nothing.
use mathlib.Core.Path.{◌∙◌}
use borrow.Author.Tests.{eq-eqb, ne_eqb}
use native.Mathlib.Omega.{arith}
use Rattle.leb128.specs.Read.{nonzero_at}
use Rattle.leb128.proofs.Refusals.{u64-none}
use Rattle.leb128.proofs.Short.{one-u64}
use Rattle.leb128.proofs.Unsigned.{long-nonzero}
use Rattle.leb128.proofs.nonzero_leb128_u64.Goals as goal

pub returns-then-b-eq0 : goal.returns-then-b-eq0
unfolding nonzero_at
returns-then-b-eq0 c =
    let a = c.args in
    rw (← one-u64 a.s.now a.at c.if-at-s.true (omega arith), eq-eqb _ _ c.if-b-eq0.true)

pub returns-then-b-lt128 : goal.returns-then-b-lt128
unfolding nonzero_at
returns-then-b-lt128 c =
    let a = c.args in
    rw (← one-u64 a.s.now a.at c.if-at-s.true c.if-b-lt128.true, ne_eqb _ _ c.if-b-eq0.false, c.wide.ensures)

pub returns-then-at-s : goal.returns-then-at-s
returns-then-at-s c = c.long_u64.ensures ∙ long-nonzero _ (λ i. (c.shared_slice_known-then-at-s-1.given i).fits) c.args.at c.if-b-lt128.false

pub returns : goal.returns
unfolding nonzero_at
returns c = rw (u64-none _ c.args.at c.if-at-s.false)
