-- `rle_encoder::repeat_end` meets its contract: up to k, the stretches are those of equal values before what follows. Assumes nothing.
use mathlib.Core.Path.{sym}
use native.Mathlib.Omega.{arith}
use lib.Dec.{eqb}
use borrow.Author.Tests.{ne_eqb}
use Rattle.encoding.proofs.Looking.{repeat-start, repeat-more, off-absent, off-other, off-end}
use Rattle.rle_decoder.proofs.WordLaws.{u64-laws}
use Rattle.rle_encoder.proofs.repeat_end.Goals as goal

pub bounds-values-i : goal.bounds-values-i
bounds-values-i c = omega arith

pub overflow_add-k : goal.overflow_add-k
overflow_add-k c = omega arith

pub loop-k-init : goal.loop-k-init
loop-k-init c = (omega arith, omega arith, repeat-start eqb 0 _ _ c.requires.1 _ c.requires.0 c.requires.2)

pub bounds-present-k : goal.bounds-present-k
bounds-present-k c = omega arith

pub returns-then-present-k-eq0 : goal.returns-then-present-k-eq0
returns-then-present-k-eq0 c =
    let h = c.loop-k.invariant in
    let e = c.requires.1 in
    let o = off-absent eqb 0 _ _ e _ _ c.loop-k-test.true c.if-present-k-eq0.true in
    record { later = h.0; within = h.1; cuts = h.2; off = o }

pub bounds-values-k : goal.bounds-values-k
bounds-values-k c = omega arith

pub returns-then-values-k : goal.returns-then-values-k
returns-then-values-k c =
    let h = c.loop-k.invariant in
    let e = c.requires.1 in
    let l = c.loop-k-test.true in
    let u = ne_eqb _ _ (λ z. c.if-values-k.true (sym z)) in
    let o = off-other eqb 0 _ _ e u64-laws.same-eq u64-laws.same_self _ _ l c.if-present-k-eq0.false u in
    record { later = h.0; within = h.1; cuts = h.2; off = o }

pub overflow_add-k-in-loop-k : goal.overflow_add-k-in-loop-k
overflow_add-k-in-loop-k c = omega arith

pub loop-k-smaller : goal.loop-k-smaller
loop-k-smaller c = omega arith

pub loop-k-preserved : goal.loop-k-preserved
loop-k-preserved c =
    let h = c.loop-k.invariant in
    let e = c.requires.1 in
    let l = c.loop-k-test.true in
    (omega arith, omega arith, repeat-more eqb 0 _ _ e _ _ h.0 l c.if-present-k-eq0.false c.if-values-k.false h.2)

pub returns : goal.returns
returns c =
    let h = c.loop-k.invariant in
    let e = c.requires.1 in
    let o = off-end eqb 0 _ _ e _ _ c.loop-k-test.false in
    record { later = h.0; within = h.1; cuts = h.2; off = o }
