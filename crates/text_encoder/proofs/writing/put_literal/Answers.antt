-- `text_encoder::writing::put_literal` meets its contract: what the names from the walk on owe at the position is what all owe at the start.
-- Assumes nothing.
use mathlib.Core.Path.{refl, sym, ◌∙◌, ap}
use native.Mathlib.Omega.{arith}
use lib.ListN.{length}
use Rattle.encoding.proofs.Putting.{put-part, put-done}
use Rattle.text.specs.Text.{text_e}
use Rattle.text.specs.Given.{name_list}
use Rattle.text_encoder.specs.Walks.{list_of}
use Rattle.text_encoder.proofs.Passing.{walk_first, walk-there}
use Rattle.encoding.proofs.Written.{values-bytes, values_length, values-over}
use Rattle.text_encoder.proofs.writing.put_literal.Goals as goal

pub loop-left-init : goal.loop-left-init
loop-left-init c = let p = c.requires in (p.«at», p.k_in_bounds.0, refl, refl, refl)

pub put_held-at-requires : goal.put_held-at-requires
put_held-at-requires c =
    let a = c.args in
    let w = c.loop-left.walk in
    let h = c.loop-left.invariant in
    let l = c.loop-left-test.true in
    let new = name_list a.bytes.now a.starts.now a.lens.now a.present.now in
    let z = values_length text_e l (walk_first a.column.now a.bytes.now new w (walk-there a.column.now a.bytes.now new w h.0 (omega arith)))
    in
    record { within = h.0.within; held_in_bounds = omega (arith, c.requires.k_in_bounds.1) }

pub overflow_sub-left : goal.overflow_sub-left
overflow_sub-left c = omega (arith, c.loop-left-test.true)

pub stepped-walk-requires : goal.stepped-walk-requires
stepped-walk-requires c =
    let a = c.args in
    let h = c.loop-left.invariant in
    let l = c.loop-left-test.true in
    let new = name_list a.bytes.now a.starts.now a.lens.now a.present.now in
    record { pairs = c.requires.pairs; «at» = h.0; times_nonzero = walk-there a.column.now a.bytes.now new c.loop-left.walk h.0 (omega arith) }

pub loop-left-smaller : goal.loop-left-smaller
loop-left-smaller c = omega (arith, c.loop-left-test.true)

pub loop-left-preserved : goal.loop-left-preserved
loop-left-preserved c =
    let h = c.loop-left.invariant in
    let l = c.loop-left-test.true in
    let t = c.stepped-walk.ensures in
    let u = c.put_held-at.ensures in
    let z = values_length text_e l t.s_value in (
      t.at_2,
      omega (arith, ap length t.s_value),
      c.put_held-at.auto.out ∙ h.2,
      omega (arith, u.after),
      h.4 ∙ put-part _ _ (values-bytes text_e l t.s_value) u,
    )

pub shape_of-out : goal.shape_of-out
shape_of-out c = c.loop-left.invariant.2

pub returns : goal.returns
returns c =
    let a = c.args in
    let h = c.loop-left.invariant in
    let new = name_list a.bytes.now a.starts.now a.lens.now a.present.now in
    let e = values-over text_e (list_of a.column.now a.bytes.now new c.loop-left.walk) c.loop-left-test.false in
    record { after = omega (arith, ap length e); bytes = sym (h.4 ∙ put-done _ _ _ e) }
