-- What each answer of the code stands for.
use Rattle.std.specs.Prelude.{ℕ, Result, Ok, Err, Option, Some, None}
use Rattle.refusal.specs.Number.{number_of}
use Rattle.refusal.specs.declared.Refusal.{Refusal}
use Rattle.encoding.specs.Walk.{Next, over, on, off}
use Rattle.cursor.specs.Cursor.{Cursor}
use Rattle.rle_cursor.specs.Answer.{RleAnswer, RleStepped}
use Rattle.rle_cursor.specs.Answer as answer
use Rattle.rle_cursor.specs.State.{cursor_of}
use Rattle.rle_cursor.specs.declared.RleCursor.{RleCursor}
use Rattle.rle_cursor.specs.declared.RleStepped as code

abbrev pub next_of : Result (Option RleCursor) Refusal → Next (Cursor ℕ)
next_of (Ok (Some k)) = on (cursor_of k)
next_of (Ok None) = over
next_of (Err e) = off (number_of e.0) e.1

abbrev pub answer_of : Result (Option (Option ℕ)) Refusal → RleAnswer
answer_of (Ok (Some (Some value))) = answer.Present value
answer_of (Ok (Some None)) = answer.Absent
answer_of (Ok None) = answer.End
answer_of (Err e) = answer.Refused (number_of e.0) e.1

abbrev pub stepped_of : code.RleStepped → RleStepped
stepped_of r = record { cursor = r.cursor; answer = answer_of r.answer }
