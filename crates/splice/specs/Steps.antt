-- The checks before a slot is filled, by numbers alone, as `plan` answers them to the edits: what its promise cites. That they are those of an edit
-- (Edit.antt) is proved (proofs/Planning.antt); no promise of an edit cites them.
use Rattle.std.specs.Prelude.{ℕ, ◌+◌, ◌-◌, max, List, cond, ltb, length, get_or, take, drop, Result, Ok, Err}
use Rattle.refusal.specs.Number.{number_of}
use Rattle.refusal.specs.declared.Refusal.{Refusal}
use Rattle.leb128.specs.Answer.{Answer, done, refused}
use Rattle.encoding.specs.Limit.{limit}
use Rattle.encoding.specs.Column.{trace}
use Rattle.encoding.specs.Walk.{outcome}
use Rattle.rle_decoder.specs.Word.{u64_e}
use Rattle.delta_decoder.specs.Sums.{delta_trace}
use Rattle.boolean_decoder.specs.Turns.{bool_trace}
use Rattle.text.specs.Text.{text_e}
use Rattle.raw_column.specs.Table.{Tab, tab, faulty, parse}
use Rattle.column_part.specs.Part.{start_of}
use Rattle.splice.specs.Edit.{end_in, below, serves}
use Rattle.splice.specs.declared.ColumnKind.{ColumnKind}
use Rattle.splice.specs.declared.ColumnKind.TheVariants as kind
use Rattle.splice.specs.declared.End.{End}
use Rattle.splice.specs.declared.Found.{Found}

-- where a row's column begins and ends in its block; or a refusal
pub data Row : Type 0 where
  stands : ℕ → ℕ → Row
  barred : ℕ → ℕ → Row

abbrev pub row_of : Result (ℕ × ℕ) Refusal → Row
row_of (Ok (at, till)) = stands at till
row_of (Err e) = barred (number_of e.0) e.1

-- table faults; 16; 17; 18 for end below start
abbrev pub row_in : ColumnKind → ℕ → ℕ → End → Tab → Row
row_in kind position start end (faulty number place) = barred number place
row_in kind position start end (tab specs lens next) =
    cond (ltb position (length specs))
    (cond (serves kind (get_or specs position 0))
    (cond (below start end) (barred 18 0) (stands (start_of lens next position) (start_of lens next position + get_or lens position 0)))
    (barred 17 0))
    (barred 16 0)

unfoldable pub row_for : ColumnKind → List ℕ → ℕ → ℕ → End → Row
row_for kind s position start end = row_in kind position start end (parse s)

-- a column's readings counted as those of its kind
unfoldable pub count_as : ColumnKind → List ℕ → Answer
count_as kind.Integer s = outcome (trace u64_e s)
count_as kind.Delta s = outcome (delta_trace s)
count_as kind.Boolean s = outcome (bool_trace s)
count_as kind.Text s = outcome (trace text_e s)

-- the new list's length
abbrev pub result_length : ℕ → ℕ → End → ℕ → ℕ
result_length old start end new = start + new + (old - end_in end old)

-- 18 for start or end beyond the list; 5 for the result; 9
unfoldable pub result_judged : ℕ → ℕ → End → ℕ → ℕ → Answer
result_judged old start end new slots =
    cond (ltb old start) (refused 18 0)
    (cond (ltb old (end_in end old)) (refused 18 0)
    (cond (ltb limit (result_length old start end new)) (refused 5 0)
    (cond (ltb slots (max old (result_length old start end new))) (refused 9 0)
    (done (result_length old start end new)))))

-- what the checks come to: where the column begins and ends in its block, how long the old list is and how long the new one; or a refusal
pub data Plan : Type 0 where
  ready : ℕ → ℕ → ℕ → ℕ → Plan
  stopped : ℕ → ℕ → Plan

abbrev pub plan_of : Result Found Refusal → Plan
plan_of (Ok found) = ready found.at found.till found.old found.len
plan_of (Err e) = stopped (number_of e.0) e.1

abbrev pub on_result : ℕ → ℕ → ℕ → Answer → Plan
on_result at till old (done n) = ready at till old n
on_result at till old (refused number place) = stopped number place

abbrev pub on_count : ℕ → ℕ → ℕ → End → ℕ → ℕ → Answer → Plan
on_count at till start end new slots (done old) = on_result at till old (result_judged old start end new slots)
on_count at till start end new slots (refused number place) = stopped number place

abbrev pub column_planned : ColumnKind → List ℕ → ℕ → ℕ → ℕ → End → ℕ → ℕ → Plan
column_planned kind s at till start end new slots = on_count at till start end new slots (count_as kind (take (till - at) (drop at s)))

abbrev pub on_given : ColumnKind → List ℕ → ℕ → ℕ → ℕ → End → ℕ → ℕ → Answer → Plan
on_given kind s at till start end new slots (done g) = column_planned kind s at till start end new slots
on_given kind s at till start end new slots (refused number place) = stopped number place

abbrev pub on_row : ColumnKind → List ℕ → ℕ → End → Answer → ℕ → ℕ → Row → Plan
on_row kind s start end given new slots (stands at till) = on_given kind s at till start end new slots given
on_row kind s start end given new slots (barred number place) = stopped number place

abbrev pub plan_for : ColumnKind → List ℕ → ℕ → ℕ → End → Answer → ℕ → ℕ → Plan
plan_for kind s position start end given new slots = on_row kind s start end given new slots (row_for kind s position start end)
