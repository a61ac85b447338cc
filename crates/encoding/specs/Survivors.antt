-- 02, [7]: "keeps the readings before the first faulty one". What survives of a column, whatever its kind.
use Rattle.std.specs.Prelude.{ℕ, length, Option, Some, None}
use Rattle.refusal.specs.Number as why
use Rattle.refusal.specs.declared.Refusal.{Refusal}
use Rattle.encoding.specs.Walk.{Ending, sound, fault, Trace}
use Rattle.encoding.specs.declared.Survey.{Survey}

-- a fault's number and place; no fault has the number 0 (proofs/Faults.antt)
abbrev pub number_of : Ending → ℕ
number_of sound = 0
number_of (fault number place) = number

abbrev pub place_of : Ending → ℕ
place_of sound = 0
place_of (fault number place) = place

-- so many readings and such an ending, by numbers
pub record Surveyed : Type 0 where
  pub readings : ℕ
  pub number : ℕ
  pub place : ℕ

abbrev pub surveyed : ℕ → Ending → Surveyed
surveyed n e = record { readings = n; number = number_of e; place = place_of e }

abbrev pub survey_of : {R : Type 0} → Trace R → Surveyed
survey_of t = surveyed (length t.readings) t.ending

-- what a survey of the code stands for
abbrev pub ending_of : Option Refusal → Ending
ending_of None = sound
ending_of (Some e) = fault (why.number_of e.0) e.1

abbrev pub seen : Survey → Surveyed
seen r = surveyed r.readings (ending_of r.fault)

-- the readings before the first faulty one, as a column that ends there
abbrev pub surviving : {R : Type 0} → Trace R → Trace R
surviving t = record { readings = t.readings; ending = sound }
