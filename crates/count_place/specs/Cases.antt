-- What an answer of the code stands for.
use Rattle.std.specs.Prelude.{ℕ, Result, Ok, Err}
use Rattle.count_place.specs.Place as spec
use Rattle.count_place.specs.declared.Differs.{Differs}

abbrev pub place_of : Result ℕ Differs → spec.Place
place_of (Ok next) = spec.behind next
place_of (Err e) = spec.differs e.0
