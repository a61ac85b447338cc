-- `rle_encoder::literal_end` meets its contract: up to j, the values equal no neighbour. Assumes nothing.
use native.Mathlib.Omega.{arith}
use lib.Dec.{eqb}
use Rattle.encoding.proofs.Looking.{paired-true, paired-false, literal-more, literal-stop, closed-absent, closed-end}
use Rattle.rle_decoder.proofs.WordLaws.{u64-laws}
use Rattle.rle_encoder.proofs.literal_end.Goals as goal

pub overflow_add-j : goal.overflow_add-j
overflow_add-j c = omega arith

pub loop-j-init : goal.loop-j-init
loop-j-init c = c.requires.literal_to

pub bounds-present-j : goal.bounds-present-j
bounds-present-j c = omega arith

pub returns-then-present-j-eq0 : goal.returns-then-present-j-eq0
returns-then-present-j-eq0 c =
    let e = c.requires.present_len in
    let o = closed-absent eqb 0 _ _ e _ c.loop-j-test.true c.if-present-j-eq0.true in
    literal-stop eqb 0 _ _ e u64-laws.same-eq u64-laws.same_self _ _ o c.loop-j.invariant

pub paired-requires : goal.paired-requires
paired-requires c = (c.loop-j-test.true, c.requires.present_len, c.if-present-j-eq0.false)

pub returns-then-paired : goal.returns-then-paired
returns-then-paired c =
    let e = c.requires.present_len in
    let o = paired-true eqb 0 _ _ _ _ c.paired.ensures c.if-paired.true in
    literal-stop eqb 0 _ _ e u64-laws.same-eq u64-laws.same_self _ _ o c.loop-j.invariant

pub overflow_add-j-in-loop-j : goal.overflow_add-j-in-loop-j
overflow_add-j-in-loop-j c = omega arith

pub loop-j-smaller : goal.loop-j-smaller
loop-j-smaller c = omega arith

pub loop-j-preserved : goal.loop-j-preserved
loop-j-preserved c =
    let e = c.requires.present_len in
    let l = c.loop-j-test.true in
    let f = c.if-present-j-eq0.false in
    let o = paired-false eqb 0 _ _ _ _ c.paired.ensures c.if-paired.false in
    literal-more eqb 0 _ _ e u64-laws.same-eq u64-laws.same_self _ _ l f o c.loop-j.invariant

pub returns : goal.returns
returns c =
    let e = c.requires.present_len in
    let o = closed-end eqb 0 _ _ e _ c.loop-j-test.false in
    literal-stop eqb 0 _ _ e u64-laws.same-eq u64-laws.same_self _ _ o c.loop-j.invariant
