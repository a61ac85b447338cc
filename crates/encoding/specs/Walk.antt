-- The meaning of a column's bytes is a trace; a column is walked run by run, over any kind of reading and any state between runs.
use Rattle.std.specs.Prelude.{ℕ, zero, suc, List, [], ◌++◌, length}
use Rattle.leb128.specs.Answer.{Answer, done, refused}

-- how a column ends: soundly, or with a refusal's number and place
pub data Ending : Type 0 where
  sound : Ending
  fault : ℕ → ℕ → Ending

-- the readings before the first faulty one, and the ending
pub record Trace (R : Type 0) : Type 0 where
  pub readings : List R
  pub ending : Ending

-- what follows a run: nothing, the column is over; the next run, from a state; or a fault
pub data Next (S : Type 0) : Type 0 where
  over : Next S
  on : S → Next S
  off : ℕ → ℕ → Next S

-- one run: its readings (before its fault, where it has one), and what follows
pub record Run (R S : Type 0) : Type 0 where
  pub readings : List R
  pub next : Next S

abbrev pub whole : {R S : Type 0} → List R → S → Run R S
whole xs st = record { readings = xs; next = on st }

abbrev pub cut : {R S : Type 0} → ℕ → ℕ → Run R S
cut number place = record { readings = []; next = off number place }

abbrev pub stop : {R S : Type 0} → Run R S
stop = record { readings = []; next = over }

abbrev pub before : {R : Type 0} → List R → Trace R → Trace R
before xs t = record { readings = xs ++ t.readings; ending = t.ending }

abbrev pub after : {R S : Type 0} → Next S → (S → Trace R) → Trace R
after over k = record { readings = []; ending = sound }
after (on st) k = k st
after (off number place) k = record { readings = []; ending = fault number place }

abbrev pub onward : {R S : Type 0} → Run R S → (S → Trace R) → Trace R
onward r k = before r.readings (after r.next k)

-- run after run, at most so many more than one
unfoldable pub walk : {R S : Type 0} → (S → Run R S) → ℕ → S → Trace R
walk run zero st = onward (run st) (λ z. record { readings = []; ending = sound })
walk run (suc f) st = onward (run st) (λ z. walk run f z)

-- what a call over a whole column answers: the number of readings, or the refusal
unfoldable pub outcome_of : ℕ → Ending → Answer
outcome_of n sound = done n
outcome_of n (fault number place) = refused number place

unfoldable pub outcome : {R : Type 0} → Trace R → Answer
outcome t = outcome_of (length t.readings) t.ending
