-- 02, [5], for delta columns: what a call answers, and a step.
use Rattle.std.specs.Prelude.{ℕ, ℤ}
use Rattle.delta_cursor.specs.declared.DeltaCursor.{DeltaCursor}

-- the next reading, present with its value or absent; the end of the column; or a refusal's number and place
pub data DeltaAnswer : Type 0 where
  Present : ℤ → DeltaAnswer
  Absent : DeltaAnswer
  End : DeltaAnswer
  Refused : ℕ → ℕ → DeltaAnswer

-- the state behind a step, and what the step answers
pub record DeltaStepped : Type 0 where
  pub cursor : DeltaCursor
  pub answer : DeltaAnswer
