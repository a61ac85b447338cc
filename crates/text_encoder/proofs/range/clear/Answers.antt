-- `text_encoder::range::clear` meets its contract: a turn clears one slot more of each slice. Assumes nothing.
use Prim.Native.Nat.{◌-◌}
use native.Mathlib.Omega.{arith}
use Rattle.slots.proofs.Moves.{stored-all, clear-start, clear-turn}
use Rattle.text_encoder.proofs.range.clear.Goals as goal

pub loop-i-init : goal.loop-i-init
loop-i-init c =
    let p = c.requires in (
      omega arith,
      p.0,
      p.1,
      p.2,
      p.3,
      clear-start _ _ _,
      clear-start _ _ _,
      clear-start _ _ _,
    )

pub offset_bounds-starts-i : goal.offset_bounds-starts-i
offset_bounds-starts-i c = let i = c.loop-i.invariant in let k = i.5.long in omega arith

pub bounds-starts-i : goal.bounds-starts-i
bounds-starts-i c = let i = c.loop-i.invariant in let k = i.5.long in omega arith

pub offset_bounds-lens-i : goal.offset_bounds-lens-i
offset_bounds-lens-i c = let i = c.loop-i.invariant in let k = i.6.long in omega arith

pub bounds-lens-i : goal.bounds-lens-i
bounds-lens-i c = let i = c.loop-i.invariant in let k = i.6.long in omega arith

pub bounds-present-i : goal.bounds-present-i
bounds-present-i c = let i = c.loop-i.invariant in let k = i.7.long in omega arith

pub overflow_add-i : goal.overflow_add-i
overflow_add-i c = let i = c.loop-i.invariant in omega arith

pub loop-i-smaller : goal.loop-i-smaller
loop-i-smaller c = let i = c.loop-i.invariant in omega arith

pub loop-i-preserved : goal.loop-i-preserved
loop-i-preserved c =
    let i = c.loop-i.invariant in (
      omega arith,
      omega arith,
      i.2,
      i.3,
      i.4,
      clear-turn 0 _ _ _ i.5 (omega arith) (omega arith) (omega arith),
      clear-turn 0 _ _ _ i.6 (omega arith) (omega arith) (omega arith),
      clear-turn 0 _ _ _ i.7 (omega arith) (omega arith) (omega arith),
    )

pub shape_of-starts : goal.shape_of-starts
shape_of-starts c = let i = c.loop-i.invariant in i.5.long

pub shape_of-lens : goal.shape_of-lens
shape_of-lens c = let i = c.loop-i.invariant in i.6.long

pub shape_of-present : goal.shape_of-present
shape_of-present c = let i = c.loop-i.invariant in i.7.long

pub returns : goal.returns
returns c =
    let i = c.loop-i.invariant in
    let a = c.args in (
      stored-all (a.to - a.from) i.5 (omega arith),
      stored-all (a.to - a.from) i.6 (omega arith),
      stored-all (a.to - a.from) i.7 (omega arith),
    )
