-- `boolean_encoder::put_counts` meets its contract: what is still to be stored are the counts from i on. Assumes nothing.
use mathlib.Core.Path.{refl, sym, ◌∙◌, ap}
use native.Mathlib.Omega.{arith}
use lib.ListN.{length}
use lib.Seq.{sets}
use Rattle.encoding.proofs.Putting.{put-part, put-done}
use Rattle.boolean_encoder.proofs.Counting.{bytes-start, bytes-end, stood-start, cut_at}
use Rattle.boolean_encoder.proofs.put_counts.Goals as goal

pub loop-i-init : goal.loop-i-init
loop-i-init c =
    let e = bytes-start c.args.values.now in
    (stood-start _, refl, omega (arith, ap length e, c.requires.1), ap (sets c.args.out.now 0) (sym e))

pub turn_end-k-requires : goal.turn_end-k-requires
turn_end-k-requires c = c.loop-i.invariant.0.within

pub overflow_sub-k : goal.overflow_sub-k
overflow_sub-k c = let e = c.turn_end-k.ensures in omega arith

pub put_number-at-requires : goal.put_number-at-requires
put_number-at-requires c =
    let h = c.loop-i.invariant in
    let k = cut_at _ _ _ _ c.requires.0 h.0 c.loop-i-test.true
    c.turn_end-k.ensures in
    omega (arith, h.1, h.2, k.size)

pub overflow_sub-flag : goal.overflow_sub-flag
overflow_sub-flag c = let h = c.loop-i.invariant.0.bit in omega arith

pub loop-i-smaller : goal.loop-i-smaller
loop-i-smaller c =
    let loop = c.loop-i in
    let loop-test = c.loop-i-test in
    let turn_end = c.turn_end-k in
    (cut_at _ _ _ _ c.requires.0 loop.invariant.0 loop-test.true
    turn_end.ensures).less

pub loop-i-preserved : goal.loop-i-preserved
loop-i-preserved c =
    let loop-test = c.loop-i-test in
    let turn_end = c.turn_end-k in
    let h = c.loop-i.invariant in
    let k = cut_at _ _ _ _ c.requires.0 h.0 loop-test.true
    turn_end.ensures in
    let u = c.put_number-at.ensures in
    (k.stood, c.put_number-at.auto.out ∙ h.1, omega (arith, h.2, k.size, u.after), h.3 ∙ put-part _ _ k.bytes u)

pub shape_of-out : goal.shape_of-out
shape_of-out c = c.loop-i.invariant.1

pub returns : goal.returns
returns c = let h = c.loop-i.invariant in sym (h.3 ∙ put-done _ _ _ (bytes-end _ _ _ c.loop-i-test.false))
