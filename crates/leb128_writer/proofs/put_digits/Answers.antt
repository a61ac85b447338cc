-- `leb128_writer::put_digits` meets its contract: what is left to store, at its place, makes the whole. Assumes nothing.
use mathlib.Core.Path.{refl, sym, ap, ◌∙◌}
use Prim.Native.Nat.{suc, ◌+◌, ◌/◌, ◌<◌, ◌≤◌}
use native.Mathlib.Omega.{arith}
use lib.ListN.{length, length-set}
use Rattle.leb128.specs.Write.{encoded}
use Rattle.leb128.proofs.Encoded.{encoded-last, encoded-more, sets_more, sets_last}
use Rattle.leb128_writer.proofs.put_digits.Goals as goal

pub loop-w-init : goal.loop-w-init
loop-w-init c = (refl, omega arith, c.requires.v_in_bounds, refl)

pub group_of-requires : goal.group_of-requires
group_of-requires c = omega arith

pub overflow_add-out : goal.overflow_add-out
overflow_add-out c = omega arith

left : (c : goal.After-group_of) → let l = c.loop-w in let a = c.args in
    l.i + suc (length (encoded a.limit a.neg (l.w / 128))) ≤ length a.out.now
left c =
    let l = c.loop-w in
    let a = c.args in
    omega (
      arith,
      l.invariant.2,
      ap length (encoded-more a.limit a.neg l.w c.requires.le_limit.0
          c.loop-w-test.true l.invariant.1),
    )

pub bounds-out-i : goal.bounds-out-i
bounds-out-i c = omega (arith, left c)

pub overflow_add-i : goal.overflow_add-i
overflow_add-i c = omega (arith, left c)

pub loop-w-smaller : goal.loop-w-smaller
loop-w-smaller c = omega arith

pub loop-w-preserved : goal.loop-w-preserved
loop-w-preserved c =
    let l = c.loop-w in (
      simp length-set l.invariant.0,
      omega arith,
      omega (arith, left c),
      l.invariant.3 ∙ sets_more l.out l.i _ _ l.w _
          c.requires.le_limit.0 c.loop-w-test.true l.invariant.1 c.group_of.ensures.0,
    )

pub group_of-requires-2 : goal.group_of-requires-2
group_of-requires-2 c = omega arith

ended : (c : goal.After-group_of-2)
    → let l = c.loop-w in let a = c.args in l.i < length a.out.now
ended c =
    let l = c.loop-w in
    let a = c.args in
    omega (arith, l.invariant.2, ap length (encoded-last a.limit a.neg l.w c.loop-w-test.false))

pub bounds-out-i-2 : goal.bounds-out-i-2
bounds-out-i-2 c = omega (arith, ended c)

pub shape_of-out : goal.shape_of-out
shape_of-out c = simp length-set c.loop-w.invariant.0

pub returns : goal.returns
returns c =
    let l = c.loop-w in
    sym (l.invariant.3 ∙ sets_last l.out l.i _ _ l.w _ c.loop-w-test.false c.group_of-2.ensures.0)
