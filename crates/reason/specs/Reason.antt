-- 02, [3]: "which run of which column, the byte where that run begins, the count read there if one was read, the index of the reading at fault (for a bad count, the
-- readings before it), and the facts that make the refusal true. For 5 that means the readings before the run and the count that passes the limit; for 6, the sum
-- before and the delta." Of integer, delta, boolean and text columns.
use Rattle.std.specs.Prelude.{ℕ, suc, ◌+◌, ◌-◌, List, [], ◌∷◌, Bool, true, false, cond, ◌||◌, ltb, eqb, ℤ, pos, negsuc, length, drop}
use Rattle.std.proofs.Math.Option.{Option, none, some}
use Rattle.leb128.specs.Got.{Got, got, bad}
use Rattle.leb128.specs.Read.{u64_at, i64_at}
use Rattle.encoding.specs.Column.{Reading, Spot, spot, run_at, trace}
use Rattle.encoding.specs.Element.{Element}
use Rattle.encoding.specs.Walk.{Next, over, on, off, Ending, sound, fault}
use Rattle.rle_decoder.specs.Word.{u64_e}
use Rattle.delta_decoder.specs.Difference.{i64_e}
use Rattle.delta_decoder.specs.Sums.{delta_trace, last_sum}
use Rattle.boolean_decoder.specs.Turns.{Turn, turn, turn_at, bool_trace}
use Rattle.text.specs.Text.{text_e}
use Rattle.reason.specs.Runs.{Walked, runs, Fallen}

-- the facts that make a refusal true: how many bytes of the number at the place are there; a name's length and how many bytes are there for it; the readings before the
-- run and how many its count asks for; the sum before and the delta
pub data Facts : Type 0 where
  bytes : ℕ → Facts
  name : ℕ → ℕ → Facts
  passes : ℕ → ℕ → Facts
  sum : ℤ → ℤ → Facts

-- "the count read there if one was read": a sign and a number
pub data Count : Type 0 where
  unread : Count
  plus : ℕ → Count
  minus : ℕ → Count

-- number and place as the ordinary call has them; the run at fault by its index, the byte where it begins and the count there; the index of the reading at fault
pub record Reason : Type 0 where
  pub number : ℕ
  pub place : ℕ
  pub run : ℕ
  pub begins : ℕ
  pub count : Count
  pub index : ℕ
  pub facts : Facts

-- ---- what stands in the bytes

-- how many bytes of a number are there, behind n of it: up to its final one, to the tenth, or to the end
unfoldable pub number_bytes : ℕ → List ℕ → ℕ
number_bytes n [] = 0
number_bytes n (b ∷ s) = let rest = suc (number_bytes (suc n) s) in cond (ltb b 128) 1 (cond (eqb n 9) 1 rest)

abbrev pub signed_count : Got ℤ → Count
signed_count (got (pos c) next) = plus c
signed_count (got (negsuc c) next) = minus (suc c)
signed_count (bad number place) = unread

abbrev pub unsigned_count : Got ℕ → Count
unsigned_count (got c next) = plus c
unsigned_count (bad number place) = unread

-- "the fact of 5 is how many readings the count asks for": of an absent run its second number
abbrev pub second : Got ℕ → ℕ
second (got c next) = c
second (bad number place) = 0

abbrev pub asked : List ℕ → Got ℤ → ℕ
asked s (got (pos c) q) = cond (eqb c 0) (second (u64_at s q)) c
asked s (got (negsuc c) q) = suc c
asked s (bad number place) = 0

-- ---- the run that has the reading i, or the fault behind it

abbrev pub ends_here : {S : Type 0} → Next S → Bool
ends_here over = true
ends_here (on z) = false
ends_here (off number place) = true

unfoldable pub holding : {R S : Type 0} → (S → ℕ) → ℕ → ℕ → List (Walked R S) → Option (Fallen R S)
holding had i k [] = none
holding {R} {S} had i k (w ∷ ws) =
    let rest = holding had i (suc k) ws in
    let here : Option (Fallen R S) = some (record { index = k; at = w }) in
    cond (ltb i (had w.state + length w.run.readings)) here (cond (ends_here w.run.next) here rest)

-- ---- the facts, by the refusal's number

-- where the number at the place is a name's length that reads, the name is at fault
abbrev pub named : List ℕ → ℕ → Got ℕ → Facts
named s place (got n q) = name n (length s - q)
named s place (bad number p) = bytes (number_bytes 0 (drop place s))

abbrev pub delta : Got ℤ → ℤ
delta (got d next) = d
delta (bad number place) = pos 0

-- ---- the reason of a column's fault: n readings stand before it

abbrev pub told : {R S : Type 0} → ℕ → ℕ → ℕ → (S → ℕ) → (S → Count) → (S → Facts) → Option (Fallen R S) → Option Reason
told number place n at count facts none = none
told number place n at count facts (some f) =
    some (
    record {
      number = number;
      place = place;
      run = f.index;
      begins = at f.at.state;
      count = count f.at.state;
      index = n;
      facts = facts f.at.state;
    })

-- by the ending: a sound column has none
abbrev pub reason_by : Ending → (ℕ → ℕ → Option Reason) → Option Reason
reason_by sound k = none
reason_by (fault number place) k = k number place

abbrev pub spots_of : {A : Type 0} → Element A → List ℕ → List (Walked (Reading A) Spot)
spots_of E s = runs (run_at E s) (length s) (spot 0 0)

abbrev pub plain_facts : List ℕ → ℕ → ℕ → Spot → Facts
plain_facts s number place st = cond (eqb number 5) (passes st.had (asked s (i64_at s st.at))) (bytes (number_bytes 0 (drop place s)))

-- only 1 and 20 can be a name's: a run's first number that is 2 or 3 as a signed one may read as an unsigned one
abbrev pub name_facts : List ℕ → ℕ → ℕ → Spot → Facts
name_facts s number place st = cond (eqb number 1 || eqb number 20) (named s place (u64_at s place)) (plain_facts s number place st)

abbrev pub sum_facts : List ℕ → ℕ → ℕ → Spot → Facts
sum_facts s number place st = cond (eqb number 6) (sum (last_sum (pos 0) (delta_trace s).readings) (delta (i64_at s place))) (plain_facts s number place st)

abbrev pub turn_facts : List ℕ → ℕ → ℕ → Turn → Facts
turn_facts s number place st = cond (eqb number 5) (passes st.had (second (u64_at s st.at))) (bytes (number_bytes 0 (drop place s)))

unfoldable pub integer_reason : List ℕ → Option Reason
integer_reason s =
    reason_by (trace u64_e s).ending (λ number place. told number place (length (trace u64_e s).readings) (λ st. st.at) (λ st. signed_count (i64_at s st.at))
    (plain_facts s number place) (holding (λ (st : Spot). st.had) (length (trace u64_e s).readings) 0 (spots_of u64_e s)))

unfoldable pub text_reason : List ℕ → Option Reason
text_reason s =
    reason_by (trace text_e s).ending (λ number place. told number place (length (trace text_e s).readings) (λ st. st.at) (λ st. signed_count (i64_at s st.at))
    (name_facts s number place) (holding (λ (st : Spot). st.had) (length (trace text_e s).readings) 0 (spots_of text_e s)))

-- the runs of a delta column are those of its differences; 6 falls within one
unfoldable pub delta_reason : List ℕ → Option Reason
delta_reason s =
    reason_by (delta_trace s).ending (λ number place. told number place (length (delta_trace s).readings) (λ st. st.at) (λ st. signed_count (i64_at s st.at))
    (sum_facts s number place) (holding (λ (st : Spot). st.had) (length (delta_trace s).readings) 0 (spots_of i64_e s)))

unfoldable pub boolean_reason : List ℕ → Option Reason
boolean_reason s =
    reason_by (bool_trace s).ending (λ number place. told number place (length (bool_trace s).readings) (λ st. st.at) (λ st. unsigned_count (u64_at s st.at))
    (turn_facts s number place) (holding (λ (st : Turn). st.had) (length (bool_trace s).readings) 0 (runs (turn_at s) (length s) (turn 0 0 0))))
