-- What an answer of the code stands for.
use Rattle.std.specs.Prelude.{ℕ, Result, Ok, Err}
use Rattle.refusal.specs.Number.{number_of}
use Rattle.refusal.specs.declared.Refusal.{Refusal}
use Rattle.leb128.specs.Answer.{Answer, done, refused}

abbrev pub written_of : Result ℕ Refusal → Answer
written_of (Ok next) = done next
written_of (Err e) = refused (number_of e.0) e.1
