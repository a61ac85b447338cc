-- `text_encoder::stretches::repeat_end` meets its contract: the name is passed so many times. Assumes nothing.
use mathlib.Core.Path.{refl}
use native.Mathlib.Omega.{arith}
use Rattle.text_encoder.proofs.Stretching.{same_start, name-turn, same-room, passed-less, repeated-other, repeated-end}
use Rattle.text_encoder.proofs.stretches.repeat_end.Goals as goal

pub advanced-walk-requires : goal.advanced-walk-requires
advanced-walk-requires c = let p = c.requires in record { pairs = p.pairs; rest = p.«at».rest }

pub loop-walk-init : goal.loop-walk-init
loop-walk-init c = same_start _ _ _ _ _ _ c.advanced-walk.ensures.«at» c.requires.times_nonzero.0

pub same_held-requires : goal.same_held-requires
same_held-requires c =
    let p = c.requires in
    let h = c.loop-walk.invariant in
    (p.«at».within, h.going.within)

pub returns-then-not-same_held : goal.returns-then-not-same_held
returns-then-not-same_held c =
    let p = c.requires in
    let h = c.loop-walk.invariant in
    let a = c.advanced-walk.ensures in
    let b = c.same_held.ensures in
    record { at_2 = h.going; repeat_of = repeated-other _ _ _ _ _ _ _ p.«at» p.times_nonzero.1 a.result_value h _ c.loop-walk-test.true b (c.if-not-same_held.true) }

pub overflow_add-count : goal.overflow_add-count
overflow_add-count c =
    let p = c.requires in
    let h = c.loop-walk.invariant in
    let a = c.advanced-walk.ensures in
    let z = same-room _ _ _ _ _ _ _ _ h _ _ p.«at» refl refl a.result_value p.s_len_bound in
    omega arith

pub advanced-walk-requires-in-loop-walk : goal.advanced-walk-requires-in-loop-walk
advanced-walk-requires-in-loop-walk c =
    let p = c.requires in
    let h = c.loop-walk.invariant in
    record { pairs = p.pairs; rest = h.going.rest }

pub loop-walk-smaller : goal.loop-walk-smaller
loop-walk-smaller c =
    let h = c.loop-walk.invariant in
    let a = c.advanced-walk-in-loop-walk.ensures in
    passed-less _ _ _ _ _ h.going a.«at» c.loop-walk-test.true a.result_value

pub loop-walk-preserved : goal.loop-walk-preserved
loop-walk-preserved c =
    let p = c.requires in
    let h = c.loop-walk.invariant in
    let a = c.advanced-walk-in-loop-walk.ensures in
    let b = c.same_held.ensures in
    name-turn _ _ _ _ _ _ _ _ p.«at» p.times_nonzero.1 h _ _ b (c.if-not-same_held.false) a.«at» a.result_value

pub returns : goal.returns
returns c =
    let p = c.requires in
    let h = c.loop-walk.invariant in
    let a = c.advanced-walk.ensures in
    record { at_2 = h.going; repeat_of = repeated-end _ _ _ _ _ _ _ p.«at» p.times_nonzero.1 a.result_value h c.loop-walk-test.false }
