-- What the answers of the code stand for.
use Rattle.std.specs.Prelude.{ℕ, Result, Ok, Err, Option, Some, None}
use Rattle.refusal.specs.Number.{number_of}
use Rattle.refusal.specs.declared.Refusal.{Refusal}
use Rattle.encoding.specs.Walk.{Next, over, on, off}
use Rattle.boolean_cursor.specs.TurnCursor.{TurnCursor}
use Rattle.boolean_cursor.specs.State.{cursor_of, BooleanAnswer, Present, End, Refused, Told}
use Rattle.boolean_cursor.specs.declared.BooleanCursor.{BooleanCursor}
use Rattle.boolean_cursor.specs.declared.BooleanStepped.{BooleanStepped}

abbrev pub next_of : Result (Option BooleanCursor) Refusal → Next TurnCursor
next_of (Ok (Some k)) = on (cursor_of k)
next_of (Ok None) = over
next_of (Err e) = off (number_of e.0) e.1

abbrev pub answer_of : Result (Option ℕ) Refusal → BooleanAnswer
answer_of (Ok (Some flag)) = Present flag
answer_of (Ok None) = End
answer_of (Err e) = Refused (number_of e.0) e.1

abbrev pub stepped_of : BooleanStepped → Told
stepped_of r = record { cursor = r.cursor; answer = answer_of r.answer }
