-- What each answer of the code stands for.
use Rattle.std.specs.Prelude.{◌-◌, ℤ, Result, Ok, Err, Option, Some, None}
use Rattle.refusal.specs.Number.{number_of}
use Rattle.refusal.specs.declared.Refusal.{Refusal}
use Rattle.encoding.specs.Walk.{Next, over, on, off}
use Rattle.encoding.specs.Column.{Reading, present}
use Rattle.cursor.specs.Steps.{Stepped, gives}
use Rattle.cursor.specs.Cursor.{same, Cursor, cursor}
use Rattle.cursor.specs.Kept.{sort_of}
use Rattle.delta_cursor.specs.Answer.{DeltaAnswer, DeltaStepped}
use Rattle.delta_cursor.specs.Answer as answer
use Rattle.delta_cursor.specs.declared.DeltaCursor.{DeltaCursor}
use Rattle.delta_cursor.specs.declared.DeltaStepped as code
use Rattle.delta_cursor.specs.declared.Differences.{Differences}

-- where a state stands in the differences
abbrev pub differences_in : DeltaCursor → Differences
differences_in k =
    record { at = k.at; had = k.had; left = k.left; sort = k.sort; difference = k.difference; place = k.place }

abbrev pub differences_of : Differences → Cursor ℤ
differences_of d = cursor d.at d.had d.left (sort_of d.sort d.difference d.place)

-- one of a run that repeats its difference
abbrev pub one_repeat : Differences → Stepped (Reading ℤ) (Cursor ℤ)
one_repeat d =
    let r = present d.difference d.place in
    gives r (cursor d.at d.had (d.left - 1) (same r))

abbrev pub next_of : Result (Option Differences) Refusal → Next (Cursor ℤ)
next_of (Ok (Some d)) = on (differences_of d)
next_of (Ok None) = over
next_of (Err e) = off (number_of e.0) e.1

abbrev pub answer_of : Result (Option (Option ℤ)) Refusal → DeltaAnswer
answer_of (Ok (Some (Some value))) = answer.Present value
answer_of (Ok (Some None)) = answer.Absent
answer_of (Ok None) = answer.End
answer_of (Err e) = answer.Refused (number_of e.0) e.1

abbrev pub stepped_of : code.DeltaStepped → DeltaStepped
stepped_of r = record { cursor = r.cursor; answer = answer_of r.answer }
