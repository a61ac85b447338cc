-- 02, [5], for columns of u64: what a call answers, and a step.
use Rattle.std.specs.Prelude.{ℕ}
use Rattle.rle_cursor.specs.declared.RleCursor.{RleCursor}

-- the next reading, present with its value or absent; the end of the column; or a refusal's number and place
pub data RleAnswer : Type 0 where
  Present : ℕ → RleAnswer
  Absent : RleAnswer
  End : RleAnswer
  Refused : ℕ → ℕ → RleAnswer

-- the state behind a step, and what the step answers
pub record RleStepped : Type 0 where
  pub cursor : RleCursor
  pub answer : RleAnswer
