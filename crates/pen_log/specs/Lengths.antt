-- Whether an entry is good goes by the list's length alone: the same judgement over lengths. What the private functions that judge a log promise; no
-- public promise cites it.
use Rattle.std.specs.Prelude.{ℕ, ◌+◌, ◌-◌, List, [], ◌∷◌, cond, leb, length, Result, Ok, Err}
use Rattle.refusal.specs.Number.{number_of}
use Rattle.refusal.specs.declared.Refusal.{Refusal}
use Rattle.leb128.specs.Answer.{Answer, done, refused}
use Rattle.leb128.specs.Got.{Got, got, bad}
use Rattle.encoding.specs.Limit.{limit}
use Rattle.encoding.specs.Walk.{Ending, Trace, outcome_of}
use Rattle.pen_log.specs.Entry.{Entry, stands}
use Rattle.pen_log.specs.Log.{Placed}
use Rattle.pen_log.specs.Spans.{start_of, end_of, new_of}

-- how long a list of n readings is behind the entry
abbrev pub length_after : Entry → ℕ → ℕ
length_after e n = start_of e + length (new_of e) + (n - end_of e)

-- 23, 5 and 9 of one entry, or the length behind it
unfoldable pub entry_judged : ℕ → ℕ → Entry → ℕ → Answer
entry_judged slots n e place =
    let m = length_after e n in
    cond (stands e n) (cond (leb m limit) (cond (leb m slots) (done m) (refused 9 0)) (refused 5 0)) (refused 23 place)

abbrev pub on_length : Answer → (ℕ → Answer) → Answer
on_length (done m) k = k m
on_length (refused number place) k = refused number place

unfoldable pub lengths_judged : ℕ → ℕ → List Placed → Ending → Answer
lengths_judged slots n [] end = outcome_of n end
lengths_judged slots n (e ∷ es) end = on_length (entry_judged slots n e.entry e.place) (λ m. lengths_judged slots m es end)

abbrev pub judged_from : ℕ → ℕ → Trace Placed → Answer
judged_from slots n t = lengths_judged slots n t.readings t.ending

-- the entry at a position, judged: the position behind it and the length; or the refusal
pub data Onward : Type 0 where
  on : ℕ → ℕ → Onward
  off : ℕ → ℕ → Onward

abbrev pub onward : ℕ → Answer → Onward
onward next (done m) = on next m
onward next (refused number place) = off number place

abbrev pub judged_at : ℕ → ℕ → ℕ → Got Entry → Onward
judged_at slots n at (got e next) = onward next (entry_judged slots n e at)
judged_at slots n at (bad number place) = off number place

abbrev pub onward_of : Result (ℕ × ℕ) Refusal → Onward
onward_of (Ok (next, m)) = on next m
onward_of (Err e) = off (number_of e.0) e.1
