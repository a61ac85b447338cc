-- 02, [5], for boolean columns: what the numbers of a state stand for, whatever they are; and one step of it.
use Rattle.std.specs.Prelude.{ℕ, List}
use Rattle.encoding.specs.Walk.{sound, fault}
use Rattle.cursor.specs.Steps.{Stepped, Said, reading, ended, said}
use Rattle.cursor.specs.Kept.{checked, leaves}
use Rattle.boolean_cursor.specs.TurnCursor.{TurnCursor, turning, turn_fresh, turn_step}
use Rattle.boolean_cursor.specs.declared.BooleanCursor.{BooleanCursor}

-- the cursor that a state stands for
abbrev pub cursor_of : BooleanCursor → TurnCursor
cursor_of k = turning k.at k.had k.left k.flag

-- the state that keeps a cursor in a column of len bytes
abbrev pub kept : ℕ → TurnCursor → BooleanCursor
kept len c = record { len = len; at = c.at; had = c.had; left = c.left; flag = c.flag }

-- before the first reading of a column of len bytes
abbrev pub new_for : ℕ → BooleanCursor
new_for len = kept len turn_fresh

-- what a call answers: a reading, the end, or a refusal by its number and place; and the state behind it
pub data BooleanAnswer : Type 0 where
  Present : ℕ → BooleanAnswer
  End : BooleanAnswer
  Refused : ℕ → ℕ → BooleanAnswer

pub record Told : Type 0 where
  pub cursor : BooleanCursor
  pub answer : BooleanAnswer

abbrev pub answer_for : Said ℕ → BooleanAnswer
answer_for (reading flag) = Present flag
answer_for (ended sound) = End
answer_for (ended (fault number place)) = Refused number place

abbrev pub told : BooleanCursor → Stepped ℕ TurnCursor → Told
told k x = record { cursor = leaves (kept k.len) k x; answer = answer_for (said x) }

-- ONE STEP, from any state
unfoldable pub step_of : List ℕ → BooleanCursor → Told
step_of s k = told k (checked k.len k.at s (turn_step s (cursor_of k)))
