-- `rewriting::turns::rewritten_turns_len` meets its contract: between two counts, what is still to come brings what is known to what is asked. Assumes nothing.
use native.Mathlib.Omega.{arith}
use Rattle.leb128.specs.Cases.{parsed_of}
use Rattle.leb128.proofs.Laws.{u64-next}
use Rattle.encoding.proofs.Via.{via}
use Rattle.rewriting.proofs.TurnSteps.{walked_start, walked_on, walked_many, walked-bad, walked_end}
use Rattle.rewriting.proofs.turns.rewritten_turns_len.Goals as goal

pub loop-at-init : goal.loop-at-init
loop-at-init c = let a = c.args in walked_start a.s.now a.room

pub overflow_sub-had : goal.overflow_sub-had
overflow_sub-had c = omega (arith, c.loop-at.invariant.capped)

pub returns-then-had-n : goal.returns-then-had-n
returns-then-had-n c =
    let a = c.args in
    let e = via parsed_of c.leb128_u64.ensures c.in-Ok.is in
    let w = c.loop-at.invariant in
    let l = c.loop-at-test.true in
    walked_many a.s.now a.room w _ _ l e (omega (arith, w.capped, c.if-had-n.true)) c.turns_end.ensures

pub turned-c-requires : goal.turned-c-requires
turned-c-requires c = let w = c.loop-at.invariant in omega (arith, w.few, w.capped, c.if-had-n.false)

pub overflow_add-had : goal.overflow_add-had
overflow_add-had c = omega (arith, c.loop-at.invariant.capped, c.if-had-n.false)

pub overflow_sub-flag : goal.overflow_sub-flag
overflow_sub-flag c = omega (arith, c.loop-at.invariant.bit)

pub loop-at-smaller : goal.loop-at-smaller
loop-at-smaller c =
    let a = c.args in
    let k = u64-next a.s.now _ _ _ (via parsed_of c.leb128_u64.ensures c.in-Ok.is) in
    omega (arith, k.0, c.loop-at-test.true)

pub loop-at-preserved : goal.loop-at-preserved
loop-at-preserved c =
    let a = c.args in
    let e = via parsed_of c.leb128_u64.ensures c.in-Ok.is in
    let w = c.loop-at.invariant in
    let l = c.loop-at-test.true in
    let r = c.turned-c.ensures in
    walked_on a.s.now a.room w _ _ l e (omega (arith, w.capped, c.if-had-n.false)) r.result_value r.times_bound

pub returns-in-Err : goal.returns-in-Err
returns-in-Err c =
    let a = c.args in
    let e = via parsed_of c.leb128_u64.ensures c.in-Err.is in
    let w = c.loop-at.invariant in
    walked-bad a.s.now a.room w _ _ c.loop-at-test.true e c.turns_end-in-Err.ensures

pub returns : goal.returns
returns c =
    let a = c.args in
    walked_end a.s.now a.room c.loop-at.invariant c.loop-at-test.false c.turns_end-2.ensures
