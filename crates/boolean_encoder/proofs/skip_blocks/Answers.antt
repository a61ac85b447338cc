-- `boolean_encoder::skip_blocks` meets its contract: the end owed at k is the end owed at i. Assumes nothing.
use mathlib.Core.Path.{refl, ◌∙◌}
use native.Mathlib.Omega.{arith}
use Rattle.boolean_encoder.proofs.skip_blocks.Goals as goal

pub loop-k-init : goal.loop-k-init
loop-k-init c = (refl, omega arith, omega arith)

pub overflow_sub-values : goal.overflow_sub-values
overflow_sub-values c = omega arith

pub alike_block-requires : goal.alike_block-requires
alike_block-requires c = omega arith

pub returns-then-not-alike_block : goal.returns-then-not-alike_block
returns-then-not-alike_block c = c.loop-k.invariant

pub overflow_add-k : goal.overflow_add-k
overflow_add-k c = omega arith

pub loop-k-smaller : goal.loop-k-smaller
loop-k-smaller c = omega arith

pub loop-k-preserved : goal.loop-k-preserved
loop-k-preserved c = (c.loop-k.invariant.0 ∙ c.alike_block.ensures (c.if-not-alike_block.false), omega arith, omega arith)

pub returns : goal.returns
returns c = c.loop-k.invariant
