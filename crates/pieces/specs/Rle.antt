-- 02, [5], for columns of u64: the piece at a state, any state. It is the step's reading with those that are left behind it of the same run, where
-- all of that run are the same.
use Rattle.std.specs.Prelude.{ℕ, suc, cond, List, ltb}
use Rattle.rle_cursor.specs.State.{step_of}
use Rattle.rle_cursor.specs.declared.RleCursor.{RleCursor}
use Rattle.rle_cursor.specs.Answer.{RleAnswer}
use Rattle.rle_cursor.specs.Answer as answer

-- what a call answers and how many times that is read there, once at least; the end and a refusal no times; and the state behind it
pub record RlePiece : Type 0 where
  pub answer : RleAnswer
  pub times : ℕ

pub record RleTaken : Type 0 where
  pub cursor : RleCursor
  pub piece : RlePiece

abbrev pub taken : RleCursor → RleAnswer → ℕ → RleTaken
taken k a times = record { cursor = k; piece = record { answer = a; times = times } }

-- the state behind all that is left of the run
abbrev pub past : RleCursor → RleCursor
past k = record { len = k.len; at = k.at; had = k.had; left = 0; sort = k.sort; value = k.value; place = k.place }

-- the reading a of a step that led to k: once and as often as is left of an absent or repeated run; a literal value once
abbrev pub standing : RleCursor → RleAnswer → RleTaken
standing k a = cond (ltb k.sort 2) (taken (past k) a (suc k.left)) (taken k a 1)

abbrev pub took_of : RleCursor → RleAnswer → RleTaken
took_of k (answer.Present value) = standing k (answer.Present value)
took_of k answer.Absent = standing k answer.Absent
took_of k answer.End = taken k answer.End 0
took_of k (answer.Refused number place) = taken k (answer.Refused number place) 0

-- THE PIECE
unfoldable pub piece_of : List ℕ → RleCursor → RleTaken
piece_of s k = took_of (step_of s k).cursor (step_of s k).answer
