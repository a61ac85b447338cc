-- What the private functions' steps stand for.
use Rattle.std.specs.Prelude.{ℕ, Result, Ok, Err}
use Rattle.refusal.specs.Number.{number_of}
use Rattle.refusal.specs.declared.Refusal.{Refusal}
use Rattle.encoding.specs.Walk.{Next, on, off}
use Rattle.encoding.specs.Column.{Spot, spot}

abbrev pub step_of : Result (ℕ × ℕ) Refusal → Next Spot
step_of (Ok (at, had)) = on (spot at had)
step_of (Err e) = off (number_of e.0) e.1
