-- `raw_column::in_order` meets its contract: what is owed of the rows from i on is what was owed of all. Assumes nothing.
use mathlib.Core.Path.{refl, sym, ◌∙◌}
use Prim.Native.Nat.{zero-le}
use native.Mathlib.Omega.{arith}
use Rattle.raw_column.proofs.Opening.{order-on, order-falls, order-end}
use Rattle.raw_column.proofs.in_order.Goals as goal

pub loop-i-init : goal.loop-i-init
loop-i-init c = (zero-le, refl)

pub returns-then-k-last : goal.returns-then-k-last
returns-then-k-last c =
    let loop = c.loop-i in
    let a = c.args in
    sym (order-falls a.specs.now a.n loop.i (omega arith) (omega arith) c.normalize-k.ensures c.if-k-last.true) ∙ loop.invariant.1

pub loop-i-preserved : goal.loop-i-preserved
loop-i-preserved c =
    let loop = c.loop-i in
    let a = c.args in (
      omega arith,
      sym (order-on a.specs.now a.n loop.i (omega arith) (omega arith) c.normalize-k.ensures c.if-k-last.false)
          ∙ loop.invariant.1,
    )

pub returns : goal.returns
returns c =
    let a = c.args in
    sym (order-end a.specs.now a.n c.loop-i.i c.loop-i.last c.loop-i-test.false) ∙ c.loop-i.invariant.1
