-- `boolean_decoder::fill` meets its contract: each count owes the same answer and the same slots as the start. Assumes nothing.
use native.Mathlib.Omega.{arith}
use Rattle.std.proofs.lemmas.Result.{err_from_is_err_and}
use Rattle.encoding.proofs.Via.{via}
use Rattle.boolean_decoder.specs.Cases.{step_of}
use Rattle.boolean_decoder.proofs.Decoding.{owing-start, owing-room, owing-on, owing-off, owing-over}
use Rattle.boolean_decoder.proofs.Turning.{turned}
use Rattle.boolean_decoder.proofs.fill.Goals as goal

pub loop-at-init : goal.loop-at-init
loop-at-init c = (omega arith, owing-start _ _ c.requires)

pub turn_at-requires : goal.turn_at-requires
turn_at-requires c = (c.loop-at-test.true, c.loop-at.invariant.1.capped, c.loop-at.invariant.0)

pub fill_same-requires : goal.fill_same-requires
fill_same-requires c =
    let loop = c.loop-at in
    let turn_at = c.turn_at in
    owing-room _ _ _ _ loop.invariant.1 _ (via step_of turn_at.ensures c.in_ok-next.was)

pub loop-at-smaller : goal.loop-at-smaller
loop-at-smaller c =
    let loop-test = c.loop-at-test in
    let turn_at = c.turn_at in
    let h = turned _ _ _ (via step_of turn_at.ensures c.in_ok-next.was) in
    omega (arith, h.ahead, loop-test.true)

pub loop-at-preserved : goal.loop-at-preserved
loop-at-preserved c =
    let loop = c.loop-at in
    let turn_at = c.turn_at in
    let e = via step_of turn_at.ensures c.in_ok-next.was in
    let h = turned _ _ _ e in
    (omega (arith, h.other), owing-on _ _ _ _ loop.invariant.1 _ _ e c.fill_same.ensures)

pub returns-in_err-next-clause-result_value : goal.returns-in_err-next-clause-result_value
returns-in_err-next-clause-result_value c =
    let p = err_from_is_err_and c.from_residual.result c.from_residual.ensures.1 in
    let both : _ × _ = owing-off _ _ _ _ c.loop-at.invariant.1 _ _ (via step_of c.turn_at.ensures c.in_err-next.was) in
    rw (p.1, p.2) both.0

pub returns-in_err-next-clause-values_after : goal.returns-in_err-next-clause-values_after
returns-in_err-next-clause-values_after c =
    let both : _ × _ = owing-off _ _ _ _ c.loop-at.invariant.1 _ _ (via step_of c.turn_at.ensures c.in_err-next.was) in
    both.1

pub shape_of-values : goal.shape_of-values
shape_of-values c = c.loop-at.invariant.1.same-v

pub returns : goal.returns
returns c = let both : _ × _ = owing-over _ _ _ _ c.loop-at.invariant.1 c.loop-at-test.false in record { result_value = both.0; values_after = both.1 }
