-- `leb128::long_end` meets its contract: the invariant of `Unsigned.antt`. Assumes nothing.
use mathlib.Core.Path.{refl, ap}
use native.Mathlib.Omega.{arith}
use Rattle.leb128.specs.Read.{end_of}
use Rattle.leb128.proofs.Unsigned.{begun, turn, cut, overlong, number, tenth, no-tenth}
use Rattle.leb128.proofs.long_end.Goals as goal

pub overflow_add-i : goal.overflow_add-i
overflow_add-i c = omega arith

pub loop-i-init : goal.loop-i-init
loop-i-init c = (omega arith, record { low = _; scale = _; scanned = begun _ _ _ c.requires.0 c.requires.1 refl })

pub bounds-s-i : goal.bounds-s-i
bounds-s-i c = omega arith

pub overflow_add-result : goal.overflow_add-result
overflow_add-result c = omega arith

pub returns-then-b-eq1 : goal.returns-then-b-eq1
returns-then-b-eq1 c = ap end_of (tenth c.loop-i.invariant.1.scanned (omega arith) (omega arith))

pub returns-else-b-eq1 : goal.returns-else-b-eq1
returns-else-b-eq1 c = no-tenth c.loop-i.invariant.1.scanned (omega arith) c.if-passed-eq9.true c.if-b-eq1.false

pub overflow_add-result-else-b-eq0 : goal.overflow_add-result-else-b-eq0
overflow_add-result-else-b-eq0 c = omega arith

pub returns-then-b-eq0 : goal.returns-then-b-eq0
returns-then-b-eq0 c = ap end_of (overlong c.loop-i.invariant.1.scanned (omega arith) (omega arith))

pub returns-else-b-eq0 : goal.returns-else-b-eq0
returns-else-b-eq0 c =
    let w = c.loop-i.invariant.1.scanned in
    ap end_of (number w _ (omega arith) c.if-b-lt128.true c.if-b-eq0.false (λ k. absurd (c.if-passed-eq9.false k)) refl)

pub overflow_add-passed : goal.overflow_add-passed
overflow_add-passed c = omega arith

pub overflow_add-i-in-loop-i : goal.overflow_add-i-in-loop-i
overflow_add-i-in-loop-i c = omega arith

pub loop-i-smaller : goal.loop-i-smaller
loop-i-smaller c = omega arith

pub loop-i-preserved : goal.loop-i-preserved
loop-i-preserved c =
    let w = c.loop-i.invariant.1.scanned in
    (omega arith, record { low = _; scale = _; scanned = turn w _ (omega arith) c.if-b-lt128.false c.if-passed-eq9.false refl })

pub returns : goal.returns
returns c = ap end_of (cut c.loop-i.invariant.1.scanned (omega arith))
