-- 02, [5], for delta columns: the piece at a state, any state. It is the step's reading with those that are left behind it of the same run, where
-- all of that run are absent or have one difference. "6: a delta sum leaves i64": the piece ends before the first such sum, and 6 comes behind it.
use Rattle.std.specs.Prelude.{ℕ, zero, suc, ◌-◌, cond, List, eqb, ℤ, pos, ◌+ℤ◌}
use Rattle.delta_decoder.specs.Sums.{held_sum}
use Rattle.delta_decoder.specs.Sofar.{held_on}
use Rattle.delta_cursor.specs.State.{step_of}
use Rattle.delta_cursor.specs.declared.DeltaCursor.{DeltaCursor}
use Rattle.delta_cursor.specs.Answer.{DeltaAnswer}
use Rattle.delta_cursor.specs.Answer as answer

-- what a call answers, by how much each reading behind it in the piece is larger, and how many there are, one at least; the end and a refusal have
-- none; and the state behind it
pub record DeltaPiece : Type 0 where
  pub answer : DeltaAnswer
  pub difference : ℤ
  pub times : ℕ

pub record DeltaTaken : Type 0 where
  pub cursor : DeltaCursor
  pub piece : DeltaPiece

-- a sum with n times a difference
unfoldable pub plus_each : ℤ → ℤ → ℕ → ℤ
plus_each z d zero = z
plus_each z d (suc n) = plus_each (z +ℤ d) d n

-- how many of n times a difference can be added to a sum, until an i64 does not hold one
unfoldable pub held_each : ℤ → ℤ → ℕ → ℕ
held_each z d zero = zero
held_each z d (suc n) = held_on (held_sum z d) (λ y. suc (held_each y d n))

abbrev pub taken : DeltaCursor → DeltaAnswer → ℤ → ℕ → DeltaTaken
taken k a difference times = record { cursor = k; piece = record { answer = a; difference = difference; times = times } }

-- the state with so many left of its run, and its sum
abbrev pub past : DeltaCursor → ℕ → ℤ → DeltaCursor
past k left sum =
    record { len = k.len; at = k.at; had = k.had; left = left; sort = k.sort; difference = k.difference; place = k.place; sum = sum }

-- the reading a of a step that led to k in a repeated run: once, and for each that is left and held
abbrev pub repeating : DeltaCursor → DeltaAnswer → DeltaTaken
repeating k a =
    let n = held_each k.sum k.difference k.left in
    taken (past k (k.left - n) (plus_each k.sum k.difference n)) a k.difference (suc n)

-- in any run: a literal reading stands there once
abbrev pub standing : DeltaCursor → DeltaAnswer → DeltaTaken
standing k a =
    cond (eqb k.sort 1) (repeating k a) (cond (eqb k.sort 0) (taken (past k 0 k.sum) a (pos 0) (suc k.left)) (taken k a (pos 0) 1))

abbrev pub took_of : DeltaCursor → DeltaAnswer → DeltaTaken
took_of k (answer.Present value) = standing k (answer.Present value)
took_of k answer.Absent = standing k answer.Absent
took_of k answer.End = taken k answer.End (pos 0) 0
took_of k (answer.Refused number place) = taken k (answer.Refused number place) (pos 0) 0

-- THE PIECE
unfoldable pub piece_of : List ℕ → DeltaCursor → DeltaTaken
piece_of s k = took_of (step_of s k).cursor (step_of s k).answer

-- the i-th reading of a piece that begins with an answer: i times the difference more; absent readings are all the same
abbrev pub reading_of : DeltaAnswer → ℤ → ℕ → DeltaAnswer
reading_of (answer.Present value) difference i = answer.Present (plus_each value difference i)
reading_of answer.Absent difference i = answer.Absent
reading_of answer.End difference i = answer.End
reading_of (answer.Refused number place) difference i = answer.Refused number place

abbrev pub reading_at : DeltaPiece → ℕ → DeltaAnswer
reading_at p i = reading_of p.answer p.difference i
