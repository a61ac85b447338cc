-- `text_encoder::writing::put_all` meets its contract: what the stretches from the walk on owe at the position is what all owe at 0. Assumes nothing.
use mathlib.Core.Path.{refl, sym, ◌∙◌}
use native.Mathlib.Omega.{arith}
use Rattle.encoding.proofs.Putting.{put-part, put-done}
use Rattle.text.specs.Text.{text_e}
use Rattle.text.specs.Given.{name_list}
use Rattle.text_encoder.proofs.Passing.{walk-over}
use Rattle.encoding.proofs.Written.{cut-bytes, cut-length, cut-shorter, cut-over}
use Rattle.text_encoder.proofs.writing.put_all.Goals as goal

pub loop-walk-init : goal.loop-walk-init
loop-walk-init c = let p = c.requires in (p.«at», p.s_len_bound, refl, omega (arith, p.s_in_bounds), refl)

pub stretch_at-found-requires : goal.stretch_at-found-requires
stretch_at-found-requires c =
    let p = c.requires in
    let h = c.loop-walk.invariant in
    record { pairs = p.pairs; «at» = h.0; s_len_bound = h.1; times_nonzero = c.loop-walk-test.true }

pub put_stretch-at-requires : goal.put_stretch-at-requires
put_stretch-at-requires c =
    let h = c.loop-walk.invariant in
    let e = c.stretch_at-found.ensures.cut_of in
    let p = c.requires in
    record { pairs = p.pairs; «at» = h.0; s_len_bound = h.1; times_nonzero = (c.loop-walk-test.true, e.whole); stretch_nonzero = (e.later, e.within); stretch_in_bounds = omega (arith, h.3, h.2, cut-length text_e e) }

pub loop-walk-smaller : goal.loop-walk-smaller
loop-walk-smaller c = cut-shorter text_e c.stretch_at-found.ensures.cut_of

pub loop-walk-preserved : goal.loop-walk-preserved
loop-walk-preserved c =
    let h = c.loop-walk.invariant in
    let e = c.stretch_at-found.ensures in
    let u = c.put_stretch-at.ensures in (
      e.at_2,
      omega (arith, cut-shorter text_e e.cut_of, h.1),
      c.put_stretch-at.auto.out ∙ h.2,
      omega (arith, u.after, h.3, cut-length text_e e.cut_of),
      h.4 ∙ put-part _ _ (cut-bytes text_e e.cut_of) u,
    )

pub shape_of-out : goal.shape_of-out
shape_of-out c = c.loop-walk.invariant.2

pub returns : goal.returns
returns c =
    let a = c.args in
    let h = c.loop-walk.invariant in
    let new = name_list a.bytes.now a.starts.now a.lens.now a.present.now in
    sym (h.4 ∙ put-done _ _ _ (cut-over text_e _ (walk-over a.column.now a.bytes.now new c.loop-walk.walk h.0 c.loop-walk-test.false)))
