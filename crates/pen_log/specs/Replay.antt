-- 02, [11]: "Replay the log over a decoded column and write it once at the end. .. A bad entry stops the replay, and nothing lent is changed. On success,
-- and on 7 or 10, the slots hold the final list, then absent zeros up to the longest list reached. Refusals: 23, .. bad position ..; order: 8, column
-- faults, 9 for the old list, then entries one by one with 23, 5 and 9 in that order, and at the end 7 and 10."
use Rattle.std.specs.Prelude.{ℕ, ◌≡◌, List, [], ◌∷◌, map, cond, leb, ℤ, pos, length}
use Rattle.std.proofs.Math.Option.{Option}
use Rattle.leb128.specs.Answer.{Answer, refused}
use Rattle.encoding.specs.Column.{value}
use Rattle.encoding.specs.Limit.{limit}
use Rattle.encoding.specs.Slots.{decoding}
use Rattle.encoding.specs.Walk.{Ending, Trace, outcome_of}
use Rattle.delta_decoder.specs.Sums.{delta_trace}
use Rattle.splice.specs.Contract.{slot_in, flag_in, itself}
use Rattle.splice.specs.Edit.{Edited, stop, late, accepted, read_by, finished, slots_left, out_left}
use Rattle.splice.specs.Kinds.{delta}
use Rattle.pen_log.specs.Entry.{applied, stands}
use Rattle.pen_log.specs.Log.{Placed, entries, all_applied, longest}

-- entry by entry over a list in so many slots: how long the final list is, or the first refusal
unfoldable pub judge : ℕ → List (Option ℤ) → List Placed → Ending → Answer
judge slots xs [] end = outcome_of (length xs) end
judge slots xs (e ∷ es) end =
    let ys = applied e.entry xs in
    let rest = judge slots ys es end in
    cond (stands e.entry (length xs))
    (cond (leb (length ys) limit) (cond (leb (length ys) slots) rest (refused 9 0)) (refused 5 0))
    (refused 23 e.place)

-- a column's list
abbrev pub old_list : List ℕ → List (Option ℤ)
old_list column = map value (delta_trace column).readings

-- entries over it, and the end: an edit whose new block is the new column, and whose zeros go up to the longest list
abbrev pub replayed_by : List (Option ℤ) → Trace Placed → ℕ → ℕ → Edited (Option ℤ)
replayed_by xs t slots room =
    read_by delta (judge slots xs t.readings t.ending) (all_applied t.readings xs)
    (λ ys. finished delta (longest t.readings xs) ys room itself (delta.wide ys))

-- the column and the log, slots for so many values and presence bytes, and an output of so many bytes
unfoldable pub replayed : List ℕ → List ℕ → ℕ → ℕ → ℕ → Edited (Option ℤ)
replayed column log values flags room =
    read_by delta (decoding (delta_trace column) values flags) (old_list column) (λ xs. replayed_by xs (entries log) values room)

-- what is answered: how many readings the final list has, and how many bytes were written; or the refusal
pub data Told : Type 0 where
  written : ℕ → ℕ → Told
  refusal : ℕ → ℕ → Told

abbrev pub told : Edited (Option ℤ) → Told
told (stop number place) = refusal number place
told (late number place most xs) = refusal number place
told (accepted most xs column) = written (length xs) (length column)

-- the slices v, p and out before it, v', p' and out' after it
pub record Replays (column log : List ℕ) (v v' : List ℤ) (p p' out out' : List ℕ) (o : Told) : Type 0 where
  pub answer : o ≡ told (replayed column log (length v) (length p) (length out))
  pub values : v' ≡ slots_left (pos 0) (map (slot_in (pos 0))) (replayed column log (length v) (length p) (length out)) v
  pub presence : p' ≡ slots_left 0 (map flag_in) (replayed column log (length v) (length p) (length out)) p
  pub output : out' ≡ out_left (replayed column log (length v) (length p) (length out)) out
