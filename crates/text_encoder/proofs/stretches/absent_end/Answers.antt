-- `text_encoder::stretches::absent_end` meets its contract: so many absent readings are passed. Assumes nothing.
use mathlib.Core.Path.{refl}
use native.Mathlib.Omega.{arith}
use Rattle.text_encoder.proofs.Alike.{held_none, absent-true, absent-false}
use Rattle.text_encoder.proofs.Stretching.{same_start, absent-turn, same-room, passed-less, absents-held, absents-end}
use Rattle.text_encoder.proofs.stretches.absent_end.Goals as goal

pub advanced-walk-requires : goal.advanced-walk-requires
advanced-walk-requires c = let p = c.requires in record { pairs = p.pairs; rest = p.«at».rest }

pub loop-walk-init : goal.loop-walk-init
loop-walk-init c = same_start _ _ _ _ _ _ c.advanced-walk.ensures.«at» c.requires.times_nonzero.0

pub is_absent-requires : goal.is_absent-requires
is_absent-requires c = tt

pub returns-then-not-is_absent : goal.returns-then-not-is_absent
returns-then-not-is_absent c =
    let p = c.requires in
    let h = c.loop-walk.invariant in
    let a = c.advanced-walk.ensures in
    let f = absent-false _ c.is_absent.result c.is_absent.ensures (c.if-not-is_absent.true) in
    record { at_2 = h.going; cut_of = absents-held _ _ _ _ _ _ _ p.«at» p.times_nonzero.1 a.result_value h c.loop-walk-test.true f }

pub overflow_add-count : goal.overflow_add-count
overflow_add-count c =
    let p = c.requires in
    let h = c.loop-walk.invariant in
    let a = c.advanced-walk.ensures in
    let z = same-room _ _ _ _ _ _ _ _ h _ _ p.«at» (held_none _ _ _ p.times_nonzero.1) refl a.result_value p.s_len_bound in
    omega arith

pub advanced-walk-requires-in-loop-walk : goal.advanced-walk-requires-in-loop-walk
advanced-walk-requires-in-loop-walk c =
    let p = c.requires in
    let h = c.loop-walk.invariant in
    record { pairs = p.pairs; rest = h.going.rest }

pub loop-walk-smaller : goal.loop-walk-smaller
loop-walk-smaller c =
    let h = c.loop-walk.invariant in
    let a = c.advanced-walk-in-loop-walk.ensures in
    passed-less _ _ _ _ _ h.going a.«at» c.loop-walk-test.true a.result_value

pub loop-walk-preserved : goal.loop-walk-preserved
loop-walk-preserved c =
    let h = c.loop-walk.invariant in
    let a = c.advanced-walk-in-loop-walk.ensures in
    let b = c.is_absent in
    let e = absent-true _ b.result b.ensures (c.if-not-is_absent.false) in
    absent-turn _ _ _ _ _ _ _ h _ e a.«at» a.result_value

pub returns : goal.returns
returns c =
    let p = c.requires in
    let h = c.loop-walk.invariant in
    let a = c.advanced-walk.ensures in
    record { at_2 = h.going; cut_of = absents-end _ _ _ _ _ _ _ p.«at» p.times_nonzero.1 a.result_value h c.loop-walk-test.false }
