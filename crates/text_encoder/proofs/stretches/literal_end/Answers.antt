-- `text_encoder::stretches::literal_end` meets its contract: so many names are passed that equal no neighbour. Assumes nothing.
use native.Mathlib.Omega.{arith}
use Rattle.text_encoder.proofs.Alike.{absent-true, absent-false}
use Rattle.text_encoder.proofs.Stretching.{apart-start, apart-turn, apart-room, apart-stop, stepped-less, closed-end, closed-absent, pair_found}
use Rattle.text_encoder.proofs.stretches.literal_end.Goals as goal

pub stepped-walk-requires : goal.stepped-walk-requires
stepped-walk-requires c = let p = c.requires in record { pairs = p.pairs; «at» = p.«at»; times_nonzero = p.times_nonzero.0 }

pub loop-walk-init : goal.loop-walk-init
loop-walk-init c = apart-start _ _ _ _ c.stepped-walk.ensures.at_2

pub is_absent-requires : goal.is_absent-requires
is_absent-requires c = tt

pub returns-then-is_absent : goal.returns-then-is_absent
returns-then-is_absent c =
    let p = c.requires in
    let h = c.loop-walk.invariant in
    let a = c.stepped-walk.ensures in
    let k = closed-absent _ _ _ _ h.going c.loop-walk-test.true (absent-true _ _ c.is_absent.ensures c.if-is_absent.true) in
    record { at_2 = h.going; cut_of = apart-stop _ _ _ _ _ _ h _ p.«at» a.s_value p.times_nonzero.1 p.off k }

pub paired-requires : goal.paired-requires
paired-requires c =
    let p = c.requires in
    let h = c.loop-walk.invariant in
    record { pairs = p.pairs; «at» = h.going; times_nonzero = (c.loop-walk-test.true, absent-false _ _ c.is_absent.ensures c.if-is_absent.false) }

pub returns-then-paired : goal.returns-then-paired
returns-then-paired c =
    let p = c.requires in
    let h = c.loop-walk.invariant in
    let a = c.stepped-walk.ensures in
    let k = pair_found _ _ _ _ h.going _ c.paired.ensures c.if-paired.true in
    record { at_2 = h.going; cut_of = apart-stop _ _ _ _ _ _ h _ p.«at» a.s_value p.times_nonzero.1 p.off k }

pub overflow_add-count : goal.overflow_add-count
overflow_add-count c =
    let p = c.requires in
    let h = c.loop-walk.invariant in
    let a = c.stepped-walk.ensures in
    let z = apart-room _ _ _ _ _ _ h _ p.«at» a.s_value _ p.s_len_bound in
    omega arith

pub stepped-walk-requires-in-loop-walk : goal.stepped-walk-requires-in-loop-walk
stepped-walk-requires-in-loop-walk c =
    let p = c.requires in
    let h = c.loop-walk.invariant in
    record { pairs = p.pairs; «at» = h.going; times_nonzero = c.loop-walk-test.true }

pub loop-walk-smaller : goal.loop-walk-smaller
loop-walk-smaller c =
    let h = c.loop-walk.invariant in
    let a = c.stepped-walk-in-loop-walk.ensures in
    stepped-less _ _ _ _ _ h.going a.at_2 a.s_value

pub loop-walk-preserved : goal.loop-walk-preserved
loop-walk-preserved c =
    let h = c.loop-walk.invariant in
    let a = c.stepped-walk-in-loop-walk.ensures in
    let f = absent-false _ _ c.is_absent.ensures c.if-is_absent.false in
    apart-turn _ _ _ _ _ _ h _ _ f c.paired.ensures c.if-paired.false a.at_2 a.s_value

pub returns : goal.returns
returns c =
    let p = c.requires in
    let h = c.loop-walk.invariant in
    let a = c.stepped-walk.ensures in
    let k = closed-end _ _ _ _ h.going c.loop-walk-test.false in
    record { at_2 = h.going; cut_of = apart-stop _ _ _ _ _ _ h _ p.«at» a.s_value p.times_nonzero.1 p.off k }
