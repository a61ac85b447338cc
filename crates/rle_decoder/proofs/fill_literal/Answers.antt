-- `rle_decoder::fill_literal` meets its contract: each value read comes first of those still to come. Assumes nothing.
use native.Mathlib.Omega.{arith}
use Rattle.std.proofs.lemmas.Result.{err_from_is_err_and}
use Rattle.leb128.specs.Cases.{parsed_of}
use Rattle.encoding.proofs.Via.{via}
use Rattle.encoding.proofs.Columns.{literals-on, literals-off, literals-none}
use Rattle.rle_decoder.specs.Word.{u64_e}
use Rattle.encoding.proofs.Running.{partly-start, partly-room, partly-on, partly-end}
use Rattle.rle_decoder.proofs.fill_literal.Goals as goal

pub loop-left-init : goal.loop-left-init
loop-left-init c = partly-start c.requires

pub bounds-values-i : goal.bounds-values-i
bounds-values-i c =
    let r = via parsed_of c.leb128_u64.ensures c.in_ok-word.was in
    let e = literals-on u64_e _ _ _ _ _ _ c.loop-left-test.true r in
    partly-room c.loop-left.invariant e

pub bounds-present-i : goal.bounds-present-i
bounds-present-i c = omega (arith, bounds-values-i c)

pub overflow_add-i : goal.overflow_add-i
overflow_add-i c = omega (arith, bounds-values-i c)

pub overflow_sub-left : goal.overflow_sub-left
overflow_sub-left c = omega arith

pub loop-left-smaller : goal.loop-left-smaller
loop-left-smaller c = omega arith

pub loop-left-preserved : goal.loop-left-preserved
loop-left-preserved c =
    let r = via parsed_of c.leb128_u64.ensures c.in_ok-word.was in
    let e = literals-on u64_e _ _ _ _ _ _ c.loop-left-test.true r in
    partly-on c.loop-left.invariant e

pub shape_of-values-in_err-word : goal.shape_of-values-in_err-word
shape_of-values-in_err-word c = c.loop-left.invariant.same-v

pub shape_of-present-in_err-word : goal.shape_of-present-in_err-word
shape_of-present-in_err-word c = c.loop-left.invariant.same-p

pub returns-in_err-word : goal.returns-in_err-word
returns-in_err-word c =
    let p = err_from_is_err_and c.from_residual.result c.from_residual.ensures.1 in
    let r = via parsed_of c.leb128_u64.ensures c.in_err-word.was in
    let e = literals-off u64_e _ _ _ _ _ _ c.loop-left-test.true r in
    let both : _ × _ = partly-end c.loop-left.invariant e in record { result_value = rw (p.1, p.2) both.0; wrote = both.1 }

pub shape_of-values : goal.shape_of-values
shape_of-values c = c.loop-left.invariant.same-v

pub shape_of-present : goal.shape_of-present
shape_of-present c = c.loop-left.invariant.same-p

pub returns : goal.returns
returns c = let both : _ × _ = partly-end c.loop-left.invariant (literals-none u64_e _ _ _ _ c.loop-left-test.false) in record { result_value = both.0; wrote = both.1 }
