-- What each answer of the code stands for.
use Rattle.std.specs.Prelude.{ℕ, Option, Some, None, Result, Ok, Err}
use Rattle.refusal.specs.Number.{number_of}
use Rattle.refusal.specs.declared.Refusal.{Refusal}
use Rattle.encoding.specs.Walk.{Next, over, on, off}
use Rattle.encoding.specs.Column.{Spot, spot}

abbrev pub end_of : Result ℕ Refusal → Next ℕ
end_of (Ok next) = on next
end_of (Err e) = off (number_of e.0) e.1

abbrev pub next_of : Result (Option (ℕ × ℕ)) Refusal → Next Spot
next_of (Ok None) = over
next_of (Ok (Some (at, had))) = on (spot at had)
next_of (Err e) = off (number_of e.0) e.1
