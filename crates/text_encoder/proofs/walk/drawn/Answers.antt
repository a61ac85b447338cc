-- `text_encoder::walk::drawn` meets its contract: a piece by the sort of the run in which a reading is left. Assumes nothing.
use native.Mathlib.Omega.{arith}
use Rattle.text_encoder.proofs.Drawn.{held-absent, held-repeat, drawn-nothing, drawn-onward}
use Rattle.text_encoder.proofs.walk.drawn.Goals as goal

pub returns-then-c-eq0 : goal.returns-then-c-eq0
returns-then-c-eq0 c = drawn-nothing _ _ _ _ c.ready-c.ensures.onward c.if-c-eq0.true (c.ready-c.ensures.column_len_bound c.if-c-eq0.true)

pub same_drawn-requires : goal.same_drawn-requires
same_drawn-requires c =
    let p = c.requires in
    let l = c.if-c-eq0.false in
    record { sound = c.ready-c.ensures.onward.sound; left_nonzero = (omega arith, p.most_nonzero, held-absent c.in-Absent.is) }

pub same_drawn-requires-in-Repeat : goal.same_drawn-requires-in-Repeat
same_drawn-requires-in-Repeat c =
    let p = c.requires in
    let l = c.if-c-eq0.false in
    record { sound = c.ready-c.ensures.onward.sound; left_nonzero = (omega arith, p.most_nonzero, held-repeat c.in-Repeat.is) }

pub returns-in-Absent : goal.returns-in-Absent
returns-in-Absent c = drawn-onward _ _ _ _ _ c.ready-c.ensures.onward c.same_drawn.ensures

pub returns-in-Repeat : goal.returns-in-Repeat
returns-in-Repeat c = drawn-onward _ _ _ _ _ c.ready-c.ensures.onward c.same_drawn-in-Repeat.ensures

pub returns-in-Literal : goal.returns-in-Literal
returns-in-Literal c = drawn-onward _ _ _ _ _ c.ready-c.ensures.onward c.literal_drawn.ensures
