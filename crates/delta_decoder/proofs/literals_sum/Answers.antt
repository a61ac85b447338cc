-- `delta_decoder::literals_sum` meets its contract: the differences still to come lead to the sum that all lead to. Assumes nothing.
use mathlib.Core.Path.{refl}
use native.Mathlib.Omega.{arith}
use mir.Syntax.{w64}
use mir.Val.{SFits}
use mir.ValLaws.{to_z-of_z}
use borrow.Author.Rules.{rules}
use Rattle.leb128.specs.Cases.{parsed_of}
use Rattle.encoding.proofs.Via.{via}
use Rattle.encoding.specs.Cases.{maybe_of}
use Rattle.delta_decoder.proofs.LastSum.{adding-on, adding-out, adding-unread, adding-end}
use Rattle.delta_decoder.proofs.literals_sum.Goals as goal

pub loop-left-init : goal.loop-left-init
loop-left-init c = refl

pub overflow_sub-left : goal.overflow_sub-left
overflow_sub-left c = omega arith

pub loop-left-smaller : goal.loop-left-smaller
loop-left-smaller c = omega arith

pub loop-left-preserved : goal.loop-left-preserved
loop-left-preserved c =
    let d = c.in-Ok.d in
    let f : SFits w64 d = search rules in
    let r = via parsed_of c.leb128_i64.ensures c.in-Ok.is in
    let t = rw (to_z-of_z w64 d f) at (via maybe_of c.add.ensures c.in-Some.is) in
    adding-on _ _ _ _ c.loop-left.invariant d _ _ c.loop-left-test.true r t

pub returns-in_default-add : goal.returns-in_default-add
returns-in_default-add c =
    let d = c.in-Ok.d in
    let f : SFits w64 d = search rules in
    let r = via parsed_of c.leb128_i64.ensures c.in-Ok.is in
    let t = rw (to_z-of_z w64 d f) at (via maybe_of c.add.ensures c.in_default-add.is) in
    adding-out _ _ _ _ c.loop-left.invariant d _ c.loop-left-test.true r t

pub returns-in_default : goal.returns-in_default
returns-in_default c =
    adding-unread _ _ _ _ c.loop-left.invariant _ _ c.loop-left-test.true (via parsed_of c.leb128_i64.ensures c.in_default.is)

pub returns : goal.returns
returns c = adding-end _ _ _ _ c.loop-left.invariant c.loop-left-test.false
