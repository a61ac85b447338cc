-- `rle_decoder::short_block` meets its contract: where `more` is 0, every byte before k + j is below 128. Assumes nothing.
use Prim.Native.Nat.{ℕ, ◌+◌, ◌<◌}
use native.Mathlib.Omega.{arith}
use lib.ListN.{get_or}
use borrow.Author.Count.{below_more}
use borrow.Author.Tests.{eqb-true}
use Rattle.rle_decoder.proofs.short_block.Goals as goal
use Rattle.rle_decoder.proofs.short_block.Goals.{else-s-k-ge128, then-s-k-ge128}

pub loop-j-init : goal.loop-j-init
loop-j-init c = (omega arith, λ h i l. absurd (omega arith))

pub overflow_add-k : goal.overflow_add-k
overflow_add-k c = omega arith

pub bounds-s-k : goal.bounds-s-k
bounds-s-k c = omega arith

pub overflow_add-j : goal.overflow_add-j
overflow_add-j c = omega arith

pub loop-j-smaller : goal.loop-j-smaller
loop-j-smaller c = omega arith

pub loop-j-preserved : goal.loop-j-preserved
loop-j-preserved c = (
  omega arith,
  λ h.
      (elim c.if-s-k-ge128.branch [ then-s-k-ge128 w ↦ absurd (omega arith) | else-s-k-ge128 w ↦ below_more (λ (i : ℕ). get_or c.args.s.now (c.args.k + i) 0 < 128) _ (c.loop-j.invariant.1 (omega arith)) w.if-s-k-ge128.false ]),
)

pub returns : goal.returns
returns c = λ h i l. c.loop-j.invariant.1 (eqb-true _ _ h) i (omega arith)
