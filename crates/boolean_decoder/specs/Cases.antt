-- What the private functions' steps stand for.
use Rattle.std.specs.Prelude.{ℕ, Result, Ok, Err}
use Rattle.refusal.specs.Number.{number_of}
use Rattle.refusal.specs.declared.Refusal.{Refusal}
use Rattle.encoding.specs.Walk.{Next, on, off}
use Rattle.boolean_decoder.specs.Turns as spec

abbrev pub step_of : Result (ℕ × ℕ × ℕ) Refusal → Next spec.Turn
step_of (Ok (at, had, flag)) = on (spec.turn at had flag)
step_of (Err e) = off (number_of e.0) e.1
