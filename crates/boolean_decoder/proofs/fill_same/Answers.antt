-- `boolean_decoder::fill_same` meets its contract: what is still to be stored. Assumes nothing.
use Prim.Native.Nat.{◌-◌, ◌≤◌}
use mathlib.Core.Path.{refl, sym, ◌∙◌}
use native.Mathlib.Omega.{arith}
use lib.ListN.{length-set}
use Rattle.encoding.proofs.Lists.{fill_none}
use Rattle.boolean_decoder.proofs.Decoding.{same_step}
use Rattle.boolean_decoder.proofs.fill_same.Goals as goal

pub loop-i-init : goal.loop-i-init
loop-i-init c = (c.requires.0, refl, refl)

pub bounds-values-i : goal.bounds-values-i
bounds-values-i c = omega arith

pub overflow_add-i : goal.overflow_add-i
overflow_add-i c = omega arith

pub loop-i-smaller : goal.loop-i-smaller
loop-i-smaller c = omega arith

pub loop-i-preserved : goal.loop-i-preserved
loop-i-preserved c =
    let h = c.loop-i.invariant in
    (omega arith, simp length-set h.1, h.2 ∙ same_step _ _ _ _ c.loop-i-test.true)

pub shape_of-values : goal.shape_of-values
shape_of-values c = c.loop-i.invariant.1

pub returns : goal.returns
returns c =
    let e : c.args.to - c.loop-i.i ≤ 0 = omega arith in
    sym (c.loop-i.invariant.2 ∙ fill_none _ _ _ _ e)
