-- `leb128::long_u64` meets its contract: the invariant of `Unsigned.antt`, with scale the power of 128 that the byte's index says. Assumes nothing.
use mathlib.Core.Path.{refl}
use native.Mathlib.Omega.{arith}
use Rattle.leb128.proofs.Scanning.{Room, room}
use Rattle.leb128.proofs.Unsigned.{begun, turn, cut, large, overlong, number, tenth, tenth-fits}
use Rattle.leb128.proofs.long_u64.Goals as goal

pub overflow_sub-first : goal.overflow_sub-first
overflow_sub-first c = omega arith

pub overflow_add-i : goal.overflow_add-i
overflow_add-i c = omega arith

pub loop-i-init : goal.loop-i-init
loop-i-init c =
    let b = c.shared_slice_known-1.given c.args.at in
    (omega arith, refl, omega (arith, b), begun _ _ _ c.requires.0 (omega arith) (omega arith))

pub bounds-s-i : goal.bounds-s-i
bounds-s-i c = omega arith

pub overflow_add-result : goal.overflow_add-result
overflow_add-result c =
    let l = c.loop-i in
    omega (arith, tenth-fits l.low l.scale l.count c.if-count-eq9.true l.invariant.1 l.invariant.2)

pub overflow_add-result-then-b-eq1 : goal.overflow_add-result-then-b-eq1
overflow_add-result-then-b-eq1 c = omega arith

pub returns-then-b-eq1 : goal.returns-then-b-eq1
returns-then-b-eq1 c = tenth c.loop-i.invariant.3 (omega arith) (omega arith)

pub returns-then-b-eq0 : goal.returns-then-b-eq0
returns-then-b-eq0 c = overlong c.loop-i.invariant.3 (omega arith) (omega arith)

pub returns-else-b-eq0 : goal.returns-else-b-eq0
returns-else-b-eq0 c = large c.loop-i.invariant.3 (omega arith) c.if-count-eq9.true (omega arith)

pub returns-then-b-eq0-2 : goal.returns-then-b-eq0-2
returns-then-b-eq0-2 c = overlong c.loop-i.invariant.3 (omega arith) (omega arith)

ends : (c : goal.After-wide)
    → let l = c.loop-i in Room l.low l.scale l.count c.wide.result
ends c =
    let l = c.loop-i in
    room _ _ _ _ (omega arith) l.invariant.1 l.invariant.2 (omega arith)

pub overflow_mul-result : goal.overflow_mul-result
overflow_mul-result c = omega (arith, ends c)

pub overflow_add-result-then-b-lt128 : goal.overflow_add-result-then-b-lt128
overflow_add-result-then-b-lt128 c = omega (arith, ends c)

pub overflow_add-result-then-b-lt128-2 : goal.overflow_add-result-then-b-lt128-2
overflow_add-result-then-b-lt128-2 c = omega arith

pub returns-then-b-lt128 : goal.returns-then-b-lt128
returns-then-b-lt128 c =
    let w = c.loop-i.invariant.3 in
    number w _ (omega arith) c.if-b-lt128.true c.if-b-eq0-2.false (λ k. absurd (c.if-count-eq9.false k)) (rw c.wide.ensures)

pub overflow_sub-b : goal.overflow_sub-b
overflow_sub-b c = omega arith

known : (c : goal.After-wide-in-loop-i)
    → let l = c.loop-i in Room l.low l.scale l.count c.wide-in-loop-i.result
known c =
    let l = c.loop-i in
    room _ _ _ _ (omega arith) l.invariant.1 l.invariant.2 (omega (arith, c.shared_slice_known-in-loop-i-1.given l.i))

pub overflow_mul-low : goal.overflow_mul-low
overflow_mul-low c = omega (arith, known c)

pub overflow_add-low : goal.overflow_add-low
overflow_add-low c = omega (arith, known c)

pub overflow_mul-scale : goal.overflow_mul-scale
overflow_mul-scale c = omega (arith, known c)

pub overflow_add-count : goal.overflow_add-count
overflow_add-count c = omega arith

pub overflow_add-i-in-loop-i : goal.overflow_add-i-in-loop-i
overflow_add-i-in-loop-i c = omega arith

pub loop-i-smaller : goal.loop-i-smaller
loop-i-smaller c = omega arith

pub loop-i-preserved : goal.loop-i-preserved
loop-i-preserved c =
    let w = c.loop-i.invariant.3 in
    (omega arith, (known c).power, (known c).below, turn w _ (omega arith) c.if-b-lt128.false c.if-count-eq9.false c.wide-in-loop-i.ensures)

pub returns : goal.returns
returns c = cut c.loop-i.invariant.3 (omega arith)
