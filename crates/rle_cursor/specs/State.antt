-- 02, [5], for columns of u64: what the numbers of a state stand for, whatever they are; and one step of it.
use Rattle.std.specs.Prelude.{ℕ, List}
use Rattle.encoding.specs.Walk.{sound, fault}
use Rattle.encoding.specs.Column.{Reading, absent, present}
use Rattle.cursor.specs.Steps.{Stepped, Said, reading, ended, said}
use Rattle.cursor.specs.Cursor.{Sort, same, literal, Cursor, cursor, fresh, step}
use Rattle.cursor.specs.Kept.{checked, sort_of, leaves}
use Rattle.rle_decoder.specs.Word.{u64_e}
use Rattle.rle_cursor.specs.declared.RleCursor.{RleCursor}
use Rattle.rle_cursor.specs.Answer.{RleAnswer, RleStepped}
use Rattle.rle_cursor.specs.Answer as answer

-- the cursor that a state stands for
abbrev pub cursor_of : RleCursor → Cursor ℕ
cursor_of k = cursor k.at k.had k.left (sort_of k.sort k.value k.place)

-- the state that keeps a cursor in a column of len bytes; an absent and a literal run carry no value
abbrev pub bare_at : ℕ → ℕ → ℕ → ℕ → ℕ → RleCursor
bare_at len at had left sort = record { len = len; at = at; had = had; left = left; sort = sort; value = 0; place = 0 }

abbrev pub kept_as : ℕ → ℕ → ℕ → ℕ → Sort ℕ → RleCursor
kept_as len at had left (same absent) = bare_at len at had left 0
kept_as len at had left (same (present value place)) = record { len = len; at = at; had = had; left = left; sort = 1; value = value; place = place }
kept_as len at had left literal = bare_at len at had left 2

abbrev pub kept : ℕ → Cursor ℕ → RleCursor
kept len c = kept_as len c.at c.had c.left c.sort

-- before the first reading of a column of len bytes
abbrev pub new_for : ℕ → RleCursor
new_for len = kept len fresh

-- what a call answers
abbrev pub answer_for : Said (Reading ℕ) → RleAnswer
answer_for (reading absent) = answer.Absent
answer_for (reading (present value place)) = answer.Present value
answer_for (ended sound) = answer.End
answer_for (ended (fault number place)) = answer.Refused number place

abbrev pub told : RleCursor → Stepped (Reading ℕ) (Cursor ℕ) → RleStepped
told k x = record { cursor = leaves (kept k.len) k x; answer = answer_for (said x) }

-- ONE STEP, from any state
unfoldable pub step_of : List ℕ → RleCursor → RleStepped
step_of s k = told k (checked k.len k.at s (step u64_e s (cursor_of k)))
