-- `reason::number_bytes` meets its contract: the invariant of `NumberBytes.antt`. Assumes nothing.
use native.Mathlib.Omega.{arith}
use Rattle.reason.proofs.NumberBytes.{final, tenth, next, none}
use Rattle.reason.proofs.number_bytes.Goals as goal

pub loop-i-init : goal.loop-i-init
loop-i-init c = (omega arith, omega arith)

pub bounds-s-i : goal.bounds-s-i
bounds-s-i c = omega arith

pub overflow_add-result : goal.overflow_add-result
overflow_add-result c = omega arith

pub returns-then-s-i-lt128 : goal.returns-then-s-i-lt128
returns-then-s-i-lt128 c = let l = c.loop-i in final _ _ l.n l.i l.invariant.1 (omega arith) c.if-s-i-lt128.true

pub returns-then-n-eq9 : goal.returns-then-n-eq9
returns-then-n-eq9 c = let l = c.loop-i in tenth _ _ l.n l.i l.invariant.1 (omega arith) c.if-s-i-lt128.false c.if-n-eq9.true

pub overflow_add-n : goal.overflow_add-n
overflow_add-n c = omega arith

pub overflow_add-i : goal.overflow_add-i
overflow_add-i c = omega arith

pub loop-i-smaller : goal.loop-i-smaller
loop-i-smaller c = omega arith

pub loop-i-preserved : goal.loop-i-preserved
loop-i-preserved c =
    let l = c.loop-i in
    (omega arith, next _ _ l.n l.i l.invariant.1 (omega arith) c.if-s-i-lt128.false c.if-n-eq9.false)

pub returns : goal.returns
returns c = let l = c.loop-i in none _ _ l.n l.i l.invariant.1 (omega arith)
