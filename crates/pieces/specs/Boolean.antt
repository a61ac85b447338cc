-- 02, [5], for boolean columns: the piece at a state, any state. It is the step's reading with those that are left behind it of the same count.
use Rattle.std.specs.Prelude.{ℕ, suc, List}
use Rattle.boolean_cursor.specs.State.{BooleanAnswer, step_of}
use Rattle.boolean_cursor.specs.State as answer
use Rattle.boolean_cursor.specs.declared.BooleanCursor.{BooleanCursor}

-- what a call answers and how many times that is read there, once at least; the end and a refusal no times; and the state behind it
pub record BooleanPiece : Type 0 where
  pub answer : BooleanAnswer
  pub times : ℕ

pub record BooleanTaken : Type 0 where
  pub cursor : BooleanCursor
  pub piece : BooleanPiece

abbrev pub taken : BooleanCursor → BooleanAnswer → ℕ → BooleanTaken
taken k a times = record { cursor = k; piece = record { answer = a; times = times } }

-- the state behind all that is left of the count
abbrev pub past : BooleanCursor → BooleanCursor
past k = record { len = k.len; at = k.at; had = k.had; left = 0; flag = k.flag }

-- a step that led to k: its reading, once and as often as is left of the count
abbrev pub took_of : BooleanCursor → BooleanAnswer → BooleanTaken
took_of k (answer.Present flag) = taken (past k) (answer.Present flag) (suc k.left)
took_of k answer.End = taken k answer.End 0
took_of k (answer.Refused number place) = taken k (answer.Refused number place) 0

-- THE PIECE
unfoldable pub piece_of : List ℕ → BooleanCursor → BooleanTaken
piece_of s k = took_of (step_of s k).cursor (step_of s k).answer
