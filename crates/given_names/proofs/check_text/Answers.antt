-- `given_names::check_text` meets its contract: what is owed from i on is what is owed of all. Assumes nothing.
use mathlib.Core.Path.{refl, sym, ◌∙◌}
use native.Mathlib.Omega.{arith}
use Rattle.text.proofs.Givens.{pairs-at, text-good, text-bad, text-end}
use Rattle.given_names.proofs.check_text.Goals as goal

pub loop-i-init : goal.loop-i-init
loop-i-init c = (c.requires.lens_len.0, c.requires.lens_len.1, omega arith, refl, c.requires.present_value)

pub offset_bounds-starts-i : goal.offset_bounds-starts-i
offset_bounds-starts-i c = omega arith

pub bounds-starts-i : goal.bounds-starts-i
bounds-starts-i c = omega arith

pub offset_bounds-lens-i : goal.offset_bounds-lens-i
offset_bounds-lens-i c = omega arith

pub bounds-lens-i : goal.bounds-lens-i
bounds-lens-i c = omega arith

pub bounds-present-i : goal.bounds-present-i
bounds-present-i c = omega arith

pub is_good_text-requires : goal.is_good_text-requires
is_good_text-requires c = let i = c.loop-i.invariant in pairs-at _ 0 _ _ _ _ i.4 c.loop-i-test.true i.0 i.1

pub returns-then-not-is_good_text : goal.returns-then-not-is_good_text
returns-then-not-is_good_text c =
    let i = c.loop-i.invariant in
    sym (i.3 ∙ text-bad _ _ _ _ _ c.loop-i-test.true i.0 i.1 (sym c.is_good_text.ensures ∙ c.if-not-is_good_text.true))

pub overflow_add-i : goal.overflow_add-i
overflow_add-i c = omega arith

pub loop-i-smaller : goal.loop-i-smaller
loop-i-smaller c = omega arith

pub loop-i-preserved : goal.loop-i-preserved
loop-i-preserved c =
    let i = c.loop-i.invariant in (
      i.0,
      i.1,
      omega arith,
      i.3 ∙ text-good _ _ _ _ _ c.loop-i-test.true i.0 i.1 (sym c.is_good_text.ensures ∙ c.if-not-is_good_text.false),
      i.4,
    )

pub returns : goal.returns
returns c = let i = c.loop-i.invariant in sym (i.3 ∙ text-end _ _ _ _ _ i.0 c.loop-i-test.false)
