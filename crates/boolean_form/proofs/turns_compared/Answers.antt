-- `boolean_form::turns_compared` meets its contract: before each count what is left to compare is the whole. Assumes nothing.
use Prim.Native.Nat.{◌<◌}
use mathlib.Core.Path.{sym}
use native.Mathlib.Omega.{arith}
use lib.ListN.{length}
use Rattle.boolean_form.proofs.Comparing.{list, agreed-start, agreed-asks, agreed-longer, agreed-ours, agreed-differs, agreed-less, agreed-on}
use Rattle.boolean_form.proofs.turns_compared.Goals as goal

pub loop-had-init : goal.loop-had-init
loop-had-init c = agreed-start c.args.s.now

pub turn_end-k-requires : goal.turn_end-k-requires
turn_end-k-requires c = agreed-asks c.args.s.now c.loop-had.invariant

pub loop-had-smaller : goal.loop-had-smaller
loop-had-smaller c =
    let e = sym c.in-Ok.ensures in
    let m : c.loop-had.had < length (list c.args.s.now) = omega (arith, c.requires, c.loop-had-test.true) in
    omega (arith, agreed-less c.args.s.now c.loop-had.invariant _ m c.turn_end-k.ensures _ e)

pub loop-had-preserved : goal.loop-had-preserved
loop-had-preserved c =
    let e = sym c.in-Ok.ensures in
    let m : c.loop-had.had < length (list c.args.s.now) = omega (arith, c.requires, c.loop-had-test.true) in
    agreed-on c.args.s.now c.loop-had.invariant _ m c.turn_end-k.ensures _ e

pub returns-in-Err : goal.returns-in-Err
returns-in-Err c =
    let e = sym c.in-Err.ensures in
    let m : c.loop-had.had < length (list c.args.s.now) = omega (arith, c.requires, c.loop-had-test.true) in
    agreed-differs c.args.s.now c.loop-had.invariant _ m c.turn_end-k.ensures _ e

pub returns-then-at-s : goal.returns-then-at-s
returns-then-at-s c =
    agreed-longer c.args.s.now c.loop-had.invariant (omega (arith, c.requires, c.loop-had-test.false)) c.if-at-s.true

pub returns : goal.returns
returns c =
    agreed-ours c.args.s.now c.loop-had.invariant (omega (arith, c.requires, c.loop-had-test.false)) c.if-at-s.false
