-- `column_reason::places::turn_of` meets its contract: what is found from each count on is what is found from the first. Assumes nothing.
use mathlib.Core.Path.{refl}
use native.Mathlib.Omega.{arith}
use lib.ListN.{length}
use Rattle.leb128.specs.Cases.{parsed_of}
use Rattle.leb128.proofs.Laws.{u64-next}
use Rattle.encoding.proofs.Via.{via}
use Rattle.column_reason.proofs.Seeking.{turn-over, turn-bad, turn-beyond, turn-behind}
use Rattle.column_reason.proofs.places.turn_of.Goals as goal

pub loop-at-init : goal.loop-at-init
loop-at-init c = (omega arith, omega arith, (0, (length c.args.s.now, omega arith, refl)))

pub overflow_sub-n : goal.overflow_sub-n
overflow_sub-n c = c.loop-at.invariant.1

pub returns-then-n-had : goal.returns-then-n-had
returns-then-n-had c =
    let e = via parsed_of c.leb128_u64.ensures c.in-Ok.is in
    turn-beyond _ _ _ _ _ c.loop-at.invariant.2 c.loop-at-test.true _ _ e c.loop-at.invariant.1 c.if-n-had.true

pub overflow_add-turn : goal.overflow_add-turn
overflow_add-turn c = omega (arith, c.loop-at.invariant.0, c.loop-at-test.true)

pub overflow_add-had : goal.overflow_add-had
overflow_add-had c = omega (arith, c.loop-at.invariant.1, c.if-n-had.false)

pub loop-at-smaller : goal.loop-at-smaller
loop-at-smaller c =
    let e = via parsed_of c.leb128_u64.ensures c.in-Ok.is in
    omega (arith, u64-next _ _ _ _ e, c.loop-at-test.true)

pub loop-at-preserved : goal.loop-at-preserved
loop-at-preserved c =
    let e = via parsed_of c.leb128_u64.ensures c.in-Ok.is in
    let i = c.loop-at.invariant in (
      omega (arith, u64-next _ _ _ _ e, i.0),
      omega (arith, i.1, c.if-n-had.false),
      turn-behind _ _ _ _ _ i.2 c.loop-at-test.true _ _ e c.requires i.1 c.if-n-had.false,
    )

pub returns-in-Err : goal.returns-in-Err
returns-in-Err c =
    let e = via parsed_of c.leb128_u64.ensures c.in-Err.is in
    turn-bad _ _ _ _ _ c.loop-at.invariant.2 c.loop-at-test.true _ _ e

pub returns : goal.returns
returns c = turn-over _ _ _ _ _ c.loop-at.invariant.2 c.loop-at-test.false
