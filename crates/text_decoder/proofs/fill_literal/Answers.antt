-- `text_decoder::fill_literal` meets its contract: each value read comes first of those still to come. Assumes nothing.
use Prim.Native.Nat.{ℕ, ◌<◌}
use native.Mathlib.Omega.{arith}
use lib.ListN.{get_or}
use Rattle.std.proofs.lemmas.Result.{err_from_is_err_and}
use Rattle.encoding.proofs.Via.{via}
use Rattle.encoding.proofs.Columns.{literals-on, literals-off, literals-none}
use Rattle.encoding.proofs.Running.{partly-start, partly-room, partly-end}
use Rattle.text.specs.Text.{text_e}
use Rattle.text.proofs.TextLaws.{text-laws}
use Rattle.text_decoder.specs.Cases.{name_of}
use Rattle.text_decoder.proofs.Filled.{found-start, found-length, partly-as}
use Rattle.text_decoder.proofs.fill_literal.Goals as goal

pub loop-left-init : goal.loop-left-init
loop-left-init c =
    (partly-start c.requires.room, partly-start c.requires.room_2)

pub bounds-starts-i : goal.bounds-starts-i
bounds-starts-i c =
    let r = via (name_of c.args.s.now) c.name_at.ensures c.in_ok-start.was in
    let e = literals-on text_e _ _ _ _ _ _ c.loop-left-test.true r in
    partly-room c.loop-left.invariant.0 e

pub bounds-lens-i : goal.bounds-lens-i
bounds-lens-i c =
    let r = via (name_of c.args.s.now) c.name_at.ensures c.in_ok-start.was in
    let e = literals-on text_e _ _ _ _ _ _ c.loop-left-test.true r in
    partly-room c.loop-left.invariant.1 e

pub bounds-present-i : goal.bounds-present-i
bounds-present-i c = omega (arith, bounds-starts-i c)

pub overflow_add-at : goal.overflow_add-at
overflow_add-at c =
    let r = via (name_of c.args.s.now) c.name_at.ensures c.in_ok-start.was in
    omega (arith, text-laws.within _ _ _ _ r)

pub overflow_add-i : goal.overflow_add-i
overflow_add-i c = omega (arith, bounds-starts-i c)

pub overflow_sub-left : goal.overflow_sub-left
overflow_sub-left c = omega arith

pub loop-left-smaller : goal.loop-left-smaller
loop-left-smaller c = omega arith

pub loop-left-preserved : goal.loop-left-preserved
loop-left-preserved c =
    let r = via (name_of c.args.s.now) c.name_at.ensures c.in_ok-start.was in
    let e = literals-on text_e _ _ _ _ _ _ c.loop-left-test.true r in
    let h = c.loop-left.invariant in
    let m = c.in_ok-start.start in
    let n = c.in_ok-start.len in
    let z = c.args.s.now in
    let B : (i : ℕ) → get_or z i 0 < 256 = λ i. omega (arith, c.shared_slice_known-1.given i) in
    (partly-as h.0 e (found-start z B _ m n r), partly-as h.1 e (found-length z B _ m n r))

pub returns-in_err-start : goal.returns-in_err-start
returns-in_err-start c =
    let p = err_from_is_err_and c.from_residual.result c.from_residual.ensures.1 in
    let r = via (name_of c.args.s.now) c.name_at.ensures c.in_err-start.was in
    let e = literals-off text_e _ _ _ _ _ _ c.loop-left-test.true r in
    let u = partly-end c.loop-left.invariant.0 e in
    let v = partly-end c.loop-left.invariant.1 e in
    rw (p.1, p.2) (record { result_value = u.0; wrote = u.1; wrote_2 = v.1 })

pub shape_of-starts : goal.shape_of-starts
shape_of-starts c = c.loop-left.invariant.0.same-v

pub shape_of-lens : goal.shape_of-lens
shape_of-lens c = c.loop-left.invariant.1.same-v

pub shape_of-present : goal.shape_of-present
shape_of-present c = c.loop-left.invariant.0.same-p

pub returns : goal.returns
returns c =
    let e = literals-none text_e _ _ _ _ c.loop-left-test.false in
    let u = partly-end c.loop-left.invariant.0 e in
    let v = partly-end c.loop-left.invariant.1 e in
    record { result_value = u.0; wrote = u.1; wrote_2 = v.1 }
