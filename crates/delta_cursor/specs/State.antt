-- 02, [5], for delta columns: what the numbers of a state stand for, whatever they are; and one step of it.
use Rattle.std.specs.Prelude.{ℕ, List, ℤ, pos}
use Rattle.encoding.specs.Walk.{sound, fault}
use Rattle.encoding.specs.Column.{Reading, absent, present}
use Rattle.cursor.specs.Steps.{Stepped, Said, reading, ended, said}
use Rattle.cursor.specs.Cursor.{Sort, same, literal, cursor}
use Rattle.cursor.specs.Kept.{checked, sort_of, leaves}
use Rattle.delta_cursor.specs.SumCursor.{SumCursor, summing, sum_fresh, delta_step}
use Rattle.delta_cursor.specs.declared.DeltaCursor.{DeltaCursor}
use Rattle.delta_cursor.specs.Answer.{DeltaAnswer, DeltaStepped}
use Rattle.delta_cursor.specs.Answer as answer

-- the cursor that a state stands for
abbrev pub cursor_of : DeltaCursor → SumCursor
cursor_of k = summing (cursor k.at k.had k.left (sort_of k.sort k.difference k.place)) k.sum

-- the state that keeps a cursor in a column of len bytes; an absent and a literal run carry no difference
abbrev pub bare_at : ℕ → ℕ → ℕ → ℕ → ℕ → ℤ → DeltaCursor
bare_at len at had left sort sum =
    record { len = len; at = at; had = had; left = left; sort = sort; difference = pos 0; place = 0; sum = sum }

abbrev pub kept_as : ℕ → ℕ → ℕ → ℕ → Sort ℤ → ℤ → DeltaCursor
kept_as len at had left (same absent) sum = bare_at len at had left 0 sum
kept_as len at had left (same (present difference place)) sum =
    record { len = len; at = at; had = had; left = left; sort = 1; difference = difference; place = place; sum = sum }
kept_as len at had left literal sum = bare_at len at had left 2 sum

abbrev pub kept : ℕ → SumCursor → DeltaCursor
kept len c = kept_as len c.differences.at c.differences.had c.differences.left c.differences.sort c.sum

-- before the first reading of a column of len bytes
abbrev pub new_for : ℕ → DeltaCursor
new_for len = kept len sum_fresh

-- what a call answers
abbrev pub answer_for : Said (Reading ℤ) → DeltaAnswer
answer_for (reading absent) = answer.Absent
answer_for (reading (present value place)) = answer.Present value
answer_for (ended sound) = answer.End
answer_for (ended (fault number place)) = answer.Refused number place

abbrev pub told : DeltaCursor → Stepped (Reading ℤ) SumCursor → DeltaStepped
told k x = record { cursor = leaves (kept k.len) k x; answer = answer_for (said x) }

-- ONE STEP, from any state
unfoldable pub step_of : List ℕ → DeltaCursor → DeltaStepped
step_of s k = told k (checked k.len k.at s (delta_step s (cursor_of k)))
