-- `picture::scales::scale_for` meets its contract: there are fifteen rows at most. Assumes nothing.
use native.Mathlib.Omega.{arith}
use Rattle.picture.proofs.Marks.{step-reaches, per-some, scale-rows, scale-is}
use borrow.Author.Rules.{rules}
use Rattle.picture.proofs.scales.scale_for.Goals as goal

pub base_for-base-requires : goal.base_for-base-requires
base_for-base-requires c = omega (arith, step-reaches c.apart.result (search rules))

pub overflow_add-result : goal.overflow_add-result
overflow_add-result c =
    let a = c.args in
    let per-place = c.per_place-per in
    let apart = c.apart in
    omega (
      arith,
      scale-rows a.low a.high a.origin a.n a.width _ _ _ _ _ 0 per-place.ensures apart.ensures
          c.step_for-step.ensures c.base_for-base.ensures c.row_of.ensures (search rules),
    )

pub parts-requires : goal.parts-requires
parts-requires c =
    let a = c.args in
    omega (arith, per-some a.n a.width)

pub returns : goal.returns
returns c =
    let a = c.args in
    let per-place = c.per_place-per in
    let apart = c.apart in
    let step-for = c.step_for-step in
    scale-is a.low a.high a.origin a.n a.width _ _ _ _ _ _ per-place.ensures apart.ensures step-for.ensures
    c.base_for-base.ensures c.row_of.ensures c.parts.ensures
