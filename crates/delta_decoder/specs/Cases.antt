-- What the private functions' answers stand for.
use Rattle.std.specs.Prelude.{ℕ, Result, Ok, Err}
use Rattle.refusal.specs.Number.{number_of}
use Rattle.refusal.specs.declared.Refusal.{Refusal}
use Rattle.encoding.specs.Walk.{Next, on, off}
use Rattle.delta_decoder.specs.Sofar.{Sofar, sofar}

abbrev pub step_of : Result (ℕ × ℕ × ℕ) Refusal → Next Sofar
step_of (Ok (at, had, n)) = on (sofar at had n)
step_of (Err e) = off (number_of e.0) e.1
