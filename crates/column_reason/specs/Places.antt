-- The run that the private functions find, as the walk that keeps its runs has it, and what they tell of it. No public promise cites it.
use Rattle.std.specs.Prelude.{ℕ, ◌≡◌, List, length}
use Rattle.std.proofs.Math.Option.{some}
use Rattle.encoding.specs.Column.{Reading, Spot, spot, run_at}
use Rattle.encoding.specs.Element.{Element}
use Rattle.boolean_decoder.specs.Turns.{Turn, turn, turn_at}
use Rattle.reason.specs.Reason.{Count, Facts, Reason, holding}
use Rattle.reason.specs.Runs.{walked, runs, Fallen}
use Rattle.column_reason.specs.declared.places.RunPlace.{RunPlace}

-- a run-length column's run
abbrev pub stands_at : {A : Type 0} → Element A → List ℕ → RunPlace → Fallen (Reading A) Spot
stands_at E s p = let st = spot p.at p.had in record { index = p.run; at = walked st (run_at E s st) }

-- a boolean column's count, of so many readings `flag`
abbrev pub turns_at : List ℕ → RunPlace → ℕ → Fallen ℕ Turn
turns_at s p flag = let st = turn p.at p.had flag in record { index = p.run; at = walked st (turn_at s st) }

-- the count that has the reading n, whatever byte it counts
abbrev pub HoldsTurn : List ℕ → ℕ → RunPlace → Type 0
HoldsTurn s n p = (flag : ℕ) × (holding (λ (st : Turn). st.had) n 0 (runs (turn_at s) (length s) (turn 0 0 0)) ≡ some (turns_at s p flag))

-- the reason of a fault behind so many readings, of the run at a place with its count and facts
abbrev pub why_of : ℕ → ℕ → ℕ → RunPlace → Count → Facts → Reason
why_of number place readings p c x = record { number = number; place = place; run = p.run; begins = p.at; count = c; index = readings; facts = x }
