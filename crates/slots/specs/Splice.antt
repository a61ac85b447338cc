-- 01, "Editing": "The result is the readings before start, the new ones, the old ones from the end on." A list in lent slots, a range of it
-- replaced in place.
use Rattle.std.specs.Prelude.{ℕ, ◌+◌, ◌-◌, max, List, ◌++◌, cond, ltb, length, take, drop, replicate}
use Rattle.leb128.specs.Answer.{Answer, done, refused}

module _ {A : Type 0} where
  abbrev pub spliced : List A → ℕ → ℕ → List A → List A
  spliced xs start end new = take start xs ++ (new ++ drop end xs)

  -- "the slots hold the new list, then absent zeros .. up to the old list's length where that was longer, the rest unchanged": slots whose
  -- first `old` held the old list, now with xs in its place, and z where xs is shorter
  abbrev pub in_slots : A → List A → ℕ → List A → List A
  in_slots z slots old xs = xs ++ (replicate (old - length xs) z ++ drop (max old (length xs)) slots)

  -- the slots after a splice of the list of `old` elements that they begin with, by its answer
  unfoldable pub spliced_slots : A → Answer → List A → ℕ → ℕ → ℕ → List A → List A
  spliced_slots z (done n) slots old start end new = in_slots z slots old (spliced (take old slots) start end new)
  spliced_slots z (refused number place) slots old start end new = slots

-- the length of the result; 18 for a range that is not one of the list's, then 9 where slots are fewer than the longer of old and new list
unfoldable pub splice_answer : ℕ → ℕ → ℕ → ℕ → ℕ → Answer
splice_answer slots old start end new =
    cond (ltb end start) (refused 18 0)
    (cond (ltb old end) (refused 18 0)
    (cond (ltb slots (max old (start + new + (old - end)))) (refused 9 0)
    (done (start + new + (old - end)))))
