-- `rle_range::put_new_u64` meets its contract: a turn stores one more of the new readings. Assumes nothing.
use borrow.Author.Rules.{rules}
use Prim.Native.Nat.{zero-le}
use mathlib.Core.Path.{◌∙◌}
use native.Mathlib.Omega.{arith}
use lib.ListN.{length}
use Rattle.slots.proofs.Moves.{stored-none, stored-all, put-turn}
use Rattle.splice.proofs.Replacing.{held-length, held_at}
use Rattle.rle_range.proofs.put_new_u64.Goals as goal

pub loop-i-init : goal.loop-i-init
loop-i-init c = (zero-le, stored-none _ _ _)

pub bounds-new_present-i : goal.bounds-new_present-i
bounds-new_present-i c = omega (arith, c.requires)

pub overflow_add-values : goal.overflow_add-values
overflow_add-values c =
    omega (arith, c.requires, c.well_formed)

pub bounds-values-at : goal.bounds-values-at
bounds-values-at c = omega (arith, c.requires, c.loop-i.invariant.1.long)

pub loop-i-preserved : goal.loop-i-preserved
loop-i-preserved c =
    let loop = c.loop-i in
    let a = c.args in
    let l = held-length 0 a.new.now a.new_present.now c.requires.1 in
    (search rules, put-turn 0 loop.invariant.1 (omega (arith, c.requires)) (omega (arith, l)) (c.held_u64.ensures ∙ held_at 0 a.new.now a.new_present.now loop.i c.requires.1 (omega arith)))

pub returns : goal.returns
returns c = stored-all (length c.args.new.now) c.loop-i.invariant.1 (omega arith)
