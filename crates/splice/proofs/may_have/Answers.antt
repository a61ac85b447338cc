-- `splice::may_have` meets its contract. Assumes nothing.
use native.Mathlib.Omega.{arith}
use mathlib.Core.Path.{sym}
use borrow.Author.Tests.{lt-leb}
use Prim.Native.Nat.{◌+◌}
use Rattle.encoding.specs.Limit.{limit}
use Rattle.splice.proofs.Planning.{leb-rest}
use Rattle.splice.proofs.may_have.Goals as goal

pub returns-then-most-kept : goal.returns-then-most-kept
returns-then-most-kept c =
    let a = c.args in
    sym (lt-leb (a.kept + a.new) limit (omega (arith, c.if-most-kept.true)))

pub returns : goal.returns
returns c =
    let a = c.args in
    leb-rest limit a.kept a.new c.if-most-kept.false
