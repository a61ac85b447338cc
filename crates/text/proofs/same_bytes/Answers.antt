-- `text::same_bytes` meets its contract: the comparison owed at the start is owed behind k bytes. Assumes nothing.
use mathlib.Core.Path.{refl, sym, ◌∙◌}
use native.Mathlib.Omega.{arith}
use Rattle.text.proofs.Bytes.{same-uneven, same_more, same-other, same_end}
use Rattle.text.proofs.same_bytes.Goals as goal

pub returns-then-v-w : goal.returns-then-v-w
returns-then-v-w c = same-uneven _ _ c.if-v-w.true

pub loop-k-init : goal.loop-k-init
loop-k-init c = refl

pub bounds-v-k : goal.bounds-v-k
bounds-v-k c = omega arith

pub bounds-w-k : goal.bounds-w-k
bounds-w-k c = omega arith

pub returns-then-v-k : goal.returns-then-v-k
returns-then-v-k c =
    sym (c.loop-k.invariant ∙ same-other _ _ c.if-v-w.false _ c.loop-k-test.true c.if-v-k.true)

pub overflow_add-k : goal.overflow_add-k
overflow_add-k c = omega arith

pub loop-k-smaller : goal.loop-k-smaller
loop-k-smaller c = omega arith

pub loop-k-preserved : goal.loop-k-preserved
loop-k-preserved c =
    c.loop-k.invariant ∙ same_more _ _ c.if-v-w.false _ c.loop-k-test.true c.if-v-k.false

pub returns : goal.returns
returns c = sym (c.loop-k.invariant ∙ same_end _ _ c.if-v-w.false _ c.loop-k-test.false)
