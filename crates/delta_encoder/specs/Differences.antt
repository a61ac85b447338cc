-- 01, "Columns": "Delta: the RLE of differences between successive present values, as i64, the first taken from 0."
use Rattle.std.specs.Prelude.{ℕ, suc, List, [], ◌∷◌, cond, ℤ, pos, ◌-ℤ◌, length}
use Rattle.std.proofs.Math.Option.{Option, none, some}
use Rattle.leb128.specs.Answer.{Answer, done, refused}
use Rattle.encoding.specs.Given.{slot_list, list_judged}
use Rattle.encoding.specs.Writer.{column_bytes}
use Rattle.delta_decoder.specs.Difference.{i64_e, holds}

-- the differences of a list, the first taken from z
unfoldable pub differences : ℤ → List (Option ℤ) → List (Option ℤ)
differences z [] = []
differences z (none ∷ xs) = none ∷ differences z xs
differences z (some v ∷ xs) = some (v -ℤ z) ∷ differences v xs

unfoldable pub delta_bytes : List (Option ℤ) → List ℕ
delta_bytes xs = column_bytes i64_e (differences (pos 0) xs)

-- the first difference that leaves i64, counting from i
unfoldable pub wide_at : ℕ → List (Option ℤ) → Option ℕ
wide_at i [] = none
wide_at i (none ∷ ds) = wide_at (suc i) ds
wide_at i (some d ∷ ds) = cond (holds d) (wide_at (suc i) ds) (some i)

-- "When encoding: 8, 5, 7": refusal 7 has the index in the list as its place
unfoldable pub width_judged : Answer → Option ℕ → Answer
width_judged (done n) none = done n
width_judged (done n) (some i) = refused 7 i
width_judged (refused number place) w = refused number place

unfoldable pub delta_judged : List ℤ → List ℕ → Answer
delta_judged v p = width_judged (list_judged (length v) p) (wide_at 0 (differences (pos 0) (slot_list v p)))
