-- `raw_column::is_plain` meets its contract: what is owed of the rows from i on is what was owed of all. Assumes nothing.
use mathlib.Core.Path.{refl, sym, ◌∙◌}
use Prim.Native.Nat.{zero-le}
use native.Mathlib.Omega.{arith}
use Rattle.raw_column.proofs.Opening.{plain-on, plain-not, plain_end}
use Rattle.raw_column.proofs.is_plain.Goals as goal

pub loop-i-init : goal.loop-i-init
loop-i-init c = (zero-le, refl)

pub returns-then-deflate : goal.returns-then-deflate
returns-then-deflate c =
    let loop = c.loop-i in
    let a = c.args in
    sym (plain-not a.specs.now a.n loop.i (omega arith) (omega arith) (sym c.deflate.ensures ∙ c.if-deflate.true))
    ∙ loop.invariant.1

pub loop-i-preserved : goal.loop-i-preserved
loop-i-preserved c =
    let loop = c.loop-i in
    let a = c.args in (
      omega arith,
      sym (plain-on a.specs.now a.n loop.i (omega arith) (omega arith) (sym c.deflate.ensures ∙ c.if-deflate.false))
          ∙ loop.invariant.1,
    )

pub returns : goal.returns
returns c =
    let a = c.args in
    sym (plain_end a.specs.now a.n c.loop-i.i c.loop-i-test.false) ∙ c.loop-i.invariant.1
