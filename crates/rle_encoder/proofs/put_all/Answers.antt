-- `rle_encoder::put_all` meets its contract: what the stretches from i on owe at the position is what all owe at 0. Assumes nothing.
use mathlib.Core.Path.{refl, sym, ◌∙◌}
use native.Mathlib.Omega.{arith}
use Rattle.encoding.proofs.Putting.{bytes_cut, bytes-length, bytes-end, put-part, put-done}
use Rattle.rle_decoder.specs.Word.{u64_e}
use Rattle.rle_encoder.proofs.put_all.Goals as goal

pub loop-i-init : goal.loop-i-init
loop-i-init c = (omega arith, refl, omega (arith, c.requires.present_in_bounds), refl)

pub stretch_at-stretch-requires : goal.stretch_at-stretch-requires
stretch_at-stretch-requires c = (c.loop-i-test.true, c.requires.present_len.0)

pub put_stretch-at-requires : goal.put_stretch-at-requires
put_stretch-at-requires c =
    let p = c.stretch_at-stretch.ensures in
    let h = c.loop-i.invariant in
    let e = bytes-length u64_e 0 _ _ _ _ p in
    record { i_bound = (p.later, p.within, c.requires.present_len.1); stretch_in_bounds = omega arith }

pub loop-i-smaller : goal.loop-i-smaller
loop-i-smaller c =
    let l = c.stretch_at-stretch.ensures.later in
    let z = c.stretch_end-i.ensures in
    omega (arith, c.loop-i-test.true)

pub loop-i-preserved : goal.loop-i-preserved
loop-i-preserved c =
    let h = c.loop-i.invariant in
    let p = c.stretch_at-stretch.ensures in
    let w = p.within in
    let z = c.stretch_end-i.ensures in
    let u = c.put_stretch-at.ensures in
    let e = rw (← z) at (bytes_cut u64_e 0 _ _ _ _ p) in
    let l = rw (← z) at (bytes-length u64_e 0 _ _ _ _ p) in
    (omega arith, c.put_stretch-at.auto.out ∙ h.1, omega (arith, u.after), h.3 ∙ put-part _ _ e u)

pub shape_of-out : goal.shape_of-out
shape_of-out c = c.loop-i.invariant.1

pub returns : goal.returns
returns c =
    let a = c.args in
    let e = bytes-end u64_e 0 a.values.now a.present.now c.loop-i.i c.loop-i-test.false in
    sym (c.loop-i.invariant.3 ∙ put-done _ _ _ e)
