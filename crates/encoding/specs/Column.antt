-- 01, "Columns": the meaning of a run-length column's bytes, over the element. "RLE is a row of runs."
use Rattle.std.specs.Prelude.{ℕ, zero, suc, ◌+◌, ◌-◌, List, [], ◌∷◌, map, cond, length, replicate, ltb}
use Rattle.std.proofs.Math.Option.{Option, none, some}
use Rattle.leb128.specs.Got.{Got, got, bad}
use Rattle.encoding.specs.Walk.{Run, stop, whole, cut, Trace, walk}
use Rattle.encoding.specs.Element.{Element}
use Rattle.encoding.specs.Head.{Head, amiss, head_at}

-- a reading: absent, or a value with the place of its number
pub data Reading (A : Type 0) : Type 0 where
  absent : Reading A
  present : A → ℕ → Reading A

unfoldable pub value : {A : Type 0} → Reading A → Option A
value absent = none
value (present a place) = some a

-- the readings of a trace without their places
abbrev pub values : {A : Type 0} → Trace (Reading A) → Trace (Option A)
values t = record { readings = map value t.readings; ending = t.ending }

-- the state between runs: the position of the next run, and how many readings came before it
pub record Spot : Type 0 where
  pub at : ℕ
  pub had : ℕ

abbrev pub spot : ℕ → ℕ → Spot
spot at had = record { at = at; had = had }

-- a repeated run of c readings, whose value stands at q; one with an unreadable value gives none
unfoldable pub repeated : {A : Type 0} → ℕ → ℕ → ℕ → Got A → Run (Reading A) Spot
repeated had c q (got a next) = whole (replicate c (present a q)) (spot next (had + c))
repeated had c q (bad number place) = cut number place

-- literal values: those before the first unreadable one are readings
abbrev pub ahead : {R S : Type 0} → R → Run R S → Run R S
ahead x r = record { readings = x ∷ r.readings; next = r.next }

unfoldable pub literal_next : {A : Type 0} → ℕ → Got A → (ℕ → Run (Reading A) Spot) → Run (Reading A) Spot
literal_next q (got a next) k = ahead (present a q) (k next)
literal_next q (bad number place) k = cut number place

-- c more of them from q on; `total` is the number of readings after the run
unfoldable pub literals : {A : Type 0} → Element A → List ℕ → ℕ → ℕ → ℕ → Run (Reading A) Spot
literals E s total zero q = whole [] (spot q total)
literals E s total (suc c) q = literal_next q (E.read s q) (λ next. literals E s total c next)

-- the run that begins so
unfoldable pub run_of : {A : Type 0} → Element A → List ℕ → ℕ → Head → Run (Reading A) Spot
run_of E s had (Head.repeat c q) = repeated had c q (E.read s q)
run_of E s had (Head.literal c q) = literals E s (had + c) c q
run_of E s had (Head.absent c next) = whole (replicate c absent) (spot next (had + c))
run_of E s had (amiss number place) = cut number place

unfoldable pub run_at : {A : Type 0} → Element A → List ℕ → Spot → Run (Reading A) Spot
run_at E s st = cond (ltb st.at (length s)) (run_of E s st.had (head_at s st.at st.had)) stop

-- the rest of a column from a state on, and the whole column
unfoldable pub trace_from : {A : Type 0} → Element A → List ℕ → Spot → Trace (Reading A)
trace_from E s st = walk (run_at E s) (length s - st.at) st

unfoldable pub trace : {A : Type 0} → Element A → List ℕ → Trace (Reading A)
trace E s = trace_from E s (spot 0 0)
