-- `table_reason::told_lengths` meets its contract: one law for each way out. Assumes nothing.
use mathlib.Core.Path.{◌∙◌}
use Prim.Native.Nat.{◌^◌, ◌<◌}
use native.Mathlib.Omega.{arith}
use Rattle.table_reason.proofs.Telling.{lengths-high, lengths-14, lengths-15, lengths-even}
use Rattle.table_reason.proofs.told_lengths.Goals as goal

pub returns-then-s-gt0 : goal.returns-then-s-gt0
returns-then-s-gt0 c =
    let f : c.args.room < 2 ^ 64 = omega arith in
    c.told.ensures ∙ lengths-high _ _ _ _ c.sum_of-s.ensures c.if-s-gt0.true f

pub returns-then-room-s : goal.returns-then-room-s
returns-then-room-s c = c.told-then-room-s.ensures ∙ lengths-14 _ _ _ _ c.sum_of-s.ensures c.if-room-s.true

pub returns-then-s-room : goal.returns-then-s-room
returns-then-s-room c = c.told-then-s-room.ensures ∙ lengths-15 _ _ _ _ c.sum_of-s.ensures c.if-s-gt0.false c.if-s-room.true

pub returns : goal.returns
returns c = lengths-even _ _ _ _ c.sum_of-s.ensures c.if-s-gt0.false c.if-room-s.false c.if-s-room.false
