-- 02, [5], at the boundary: what comes next in a column in C's form. `what` is 1 for a present reading, 2 for an absent one and 3 for the end; in
-- a refusal it is 0, as every number but the refusal's own and its place.
use Rattle.std.specs.Prelude.{ℕ, List, ℤ, pos}
use Rattle.rle_cursor.specs.State as rle
use Rattle.rle_cursor.specs.declared.RleCursor.{RleCursor}
use Rattle.rle_cursor.specs.Answer.{RleAnswer}
use Rattle.rle_cursor.specs.Answer as rleAnswer
use Rattle.delta_cursor.specs.State as delta
use Rattle.delta_cursor.specs.declared.DeltaCursor.{DeltaCursor}
use Rattle.delta_cursor.specs.Answer.{DeltaAnswer}
use Rattle.delta_cursor.specs.Answer as deltaAnswer
use Rattle.boolean_cursor.specs.State.{BooleanAnswer}
use Rattle.boolean_cursor.specs.State as boolean
use Rattle.boolean_cursor.specs.declared.BooleanCursor.{BooleanCursor}
use Rattle.capi.specs.declared.NextU64.{NextU64}
use Rattle.capi.specs.declared.NextI64.{NextI64}
use Rattle.capi.specs.declared.NextU8.{NextU8}

-- the state behind a step, and the step's answer in this form
pub record RleStepped : Type 0 where
  pub cursor : RleCursor
  pub answer : NextU64

pub record DeltaStepped : Type 0 where
  pub cursor : DeltaCursor
  pub answer : NextI64

pub record BooleanStepped : Type 0 where
  pub cursor : BooleanCursor
  pub answer : NextU8

abbrev pub next_u64 : RleAnswer → NextU64
next_u64 (rleAnswer.Present value) = record { number = 0; what = 1; place = 0; value = value }
next_u64 rleAnswer.Absent = record { number = 0; what = 2; place = 0; value = 0 }
next_u64 rleAnswer.End = record { number = 0; what = 3; place = 0; value = 0 }
next_u64 (rleAnswer.Refused number place) = record { number = number; what = 0; place = place; value = 0 }

abbrev pub next_i64 : DeltaAnswer → NextI64
next_i64 (deltaAnswer.Present value) = record { number = 0; what = 1; place = 0; value = value }
next_i64 deltaAnswer.Absent = record { number = 0; what = 2; place = 0; value = pos 0 }
next_i64 deltaAnswer.End = record { number = 0; what = 3; place = 0; value = pos 0 }
next_i64 (deltaAnswer.Refused number place) = record { number = number; what = 0; place = place; value = pos 0 }

abbrev pub next_u8 : BooleanAnswer → NextU8
next_u8 (boolean.Present value) = record { number = 0; what = 1; place = 0; value = value }
next_u8 boolean.End = record { number = 0; what = 3; place = 0; value = 0 }
next_u8 (boolean.Refused number place) = record { number = number; what = 0; place = place; value = 0 }

-- one step of the library, from any state, its answer in this form
abbrev pub rle_step : List ℕ → RleCursor → RleStepped
rle_step s k = record { cursor = (rle.step_of s k).cursor; answer = next_u64 (rle.step_of s k).answer }

abbrev pub delta_step : List ℕ → DeltaCursor → DeltaStepped
delta_step s k = record { cursor = (delta.step_of s k).cursor; answer = next_i64 (delta.step_of s k).answer }

abbrev pub boolean_step : List ℕ → BooleanCursor → BooleanStepped
boolean_step s k = record { cursor = (boolean.step_of s k).cursor; answer = next_u8 (boolean.step_of s k).answer }
