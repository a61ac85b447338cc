-- What each answer of the code stands for.
use Rattle.std.specs.Prelude.{ℕ, Result, Ok, Err}
use Rattle.refusal.specs.Number.{number_of}
use Rattle.refusal.specs.declared.Refusal.{Refusal}
use Rattle.leb128.specs.Got.{Got, got, bad}

abbrev pub parsed_of : {A : Type 0} → Result (A × ℕ) Refusal → Got A
parsed_of (Ok (v, next)) = got v next
parsed_of (Err e) = bad (number_of e.0) e.1
