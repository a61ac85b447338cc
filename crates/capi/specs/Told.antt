-- What the library promises of its own answer, passed on: the boundary's answer is the form of one of which that promise holds. The promises
-- cited so (`Decoded`, `DecodedNames`, `Encoded`, `SavedOptional`, `SavedTurns`, `SavedNames`) fix their answer by an equation, so no second
-- answer fits here either. Tables, edits and cursors are answered as the library has them, and their promises are cited themselves.
use Rattle.std.specs.Prelude.{◌≡◌}
use Rattle.leb128.specs.Answer.{Answer}
use Rattle.salvage.specs.Salvage.{Outcome}
use Rattle.capi.specs.Cases.{counted, salvaged_as}
use Rattle.capi.specs.declared.Counted.{Counted}
use Rattle.capi.specs.declared.Salvaged.{Salvaged}

pub record Told (P : Answer → Type 0) (r : Counted) : Type 0 where
  pub told : Answer
  pub form : r ≡ counted told
  pub holds : P told

pub record ToldSalvage (P : Outcome → Type 0) (r : Salvaged) : Type 0 where
  pub told : Outcome
  pub form : r ≡ salvaged_as told
  pub holds : P told
