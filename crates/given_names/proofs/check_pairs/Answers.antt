-- `given_names::check_pairs` meets its contract: what is owed from i on is what is owed of all. Assumes nothing.
use mathlib.Core.Path.{refl, sym, ◌∙◌}
use native.Mathlib.Omega.{arith}
use Rattle.text.proofs.Givens.{pair-good, pair-bad, pair_end}
use Rattle.given_names.proofs.check_pairs.Goals as goal

pub loop-i-init : goal.loop-i-init
loop-i-init c = (c.requires.0, c.requires.1, omega arith, refl)

pub offset_bounds-starts-i : goal.offset_bounds-starts-i
offset_bounds-starts-i c = omega arith

pub bounds-starts-i : goal.bounds-starts-i
bounds-starts-i c = omega arith

pub offset_bounds-lens-i : goal.offset_bounds-lens-i
offset_bounds-lens-i c = omega arith

pub bounds-lens-i : goal.bounds-lens-i
bounds-lens-i c = omega arith

pub bounds-present-i : goal.bounds-present-i
bounds-present-i c = omega arith

pub returns-then-not-is_good_pair : goal.returns-then-not-is_good_pair
returns-then-not-is_good_pair c =
    let i = c.loop-i.invariant in
    sym (i.3 ∙ pair-bad _ _ _ _ _ c.loop-i-test.true i.0 i.1 (sym c.is_good_pair.ensures ∙ c.if-not-is_good_pair.true))

pub overflow_add-i : goal.overflow_add-i
overflow_add-i c = omega arith

pub loop-i-smaller : goal.loop-i-smaller
loop-i-smaller c = omega arith

pub loop-i-preserved : goal.loop-i-preserved
loop-i-preserved c =
    let i = c.loop-i.invariant in (
      i.0,
      i.1,
      omega arith,
      i.3 ∙ pair-good _ _ _ _ _ c.loop-i-test.true i.0 i.1 (sym c.is_good_pair.ensures ∙ c.if-not-is_good_pair.false),
    )

pub returns : goal.returns
returns c = sym (c.loop-i.invariant.3 ∙ pair_end _ _ _ _ _ c.loop-i-test.false)
