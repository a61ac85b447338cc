-- `delta_decoder::read_literals` meets its contract: the sums counted and those of the differences still to come are all that are held. Assumes nothing.
use native.Mathlib.Omega.{arith}
use mir.Syntax.{w64}
use mir.Val.{SFits}
use mir.ValLaws.{to_z-of_z}
use borrow.Author.Rules.{rules}
use Rattle.leb128.specs.Cases.{parsed_of}
use Rattle.encoding.proofs.Via.{via}
use Rattle.encoding.specs.Cases.{maybe_of}
use Rattle.delta_decoder.proofs.Readings.{counted_start, counted-on, counted-out, counted-unread, counted-end}
use Rattle.delta_decoder.proofs.read_literals.Goals as goal

pub loop-read-init : goal.loop-read-init
loop-read-init c = counted_start _ _ _ _

pub overflow_add-read : goal.overflow_add-read
overflow_add-read c = omega arith

pub loop-read-smaller : goal.loop-read-smaller
loop-read-smaller c = omega arith

pub loop-read-preserved : goal.loop-read-preserved
loop-read-preserved c =
    let d = c.in-Ok.d in
    let f : SFits w64 d = search rules in
    let r = via parsed_of c.difference.ensures c.in-Ok.is in
    let t = rw (to_z-of_z w64 d f) at (via maybe_of c.add.ensures c.in-Some.is) in
    counted-on _ _ _ _ _ _ c.loop-read.invariant d _ _ c.loop-read-test.true r t

pub returns-in_default-add : goal.returns-in_default-add
returns-in_default-add c =
    let d = c.in-Ok.d in
    let f : SFits w64 d = search rules in
    let r = via parsed_of c.difference.ensures c.in-Ok.is in
    let t = rw (to_z-of_z w64 d f) at (via maybe_of c.add.ensures c.in_default-add.is) in
    counted-out _ _ _ _ _ _ c.loop-read.invariant d _ c.loop-read-test.true r t

pub returns-in_default : goal.returns-in_default
returns-in_default c =
    counted-unread _ _ _ _ _ _ c.loop-read.invariant _ _ c.loop-read-test.true (via parsed_of c.difference.ensures c.in_default.is)

pub returns : goal.returns
returns c = counted-end _ _ _ _ _ _ c.loop-read.invariant c.loop-read-test.false
