-- A delta column run by run: what the private functions of the reader promise one another. A sum z is kept as the unsigned number
-- z + 2^63, so that it leaves i64 where that leaves u64. Of the public promises those of `sum_of` and `times_held` alone cite it.
use Rattle.std.specs.Prelude.{ℕ, zero, suc, ◌+◌, ◌*◌, ◌-◌, ◌^◌, List, [], ◌∷◌, cond, ltb, leb, ℤ, pos, negsuc}
use Rattle.std.proofs.Math.Option.{Option, none, some}
use Rattle.std.proofs.Math.IntN.{sub_ℕ}
use Rattle.encoding.specs.Walk.{Next, over, on, off, Run, cut}
use Rattle.encoding.specs.Column.{Reading, absent, present, Spot, spot, run_at}
use Rattle.delta_decoder.specs.Difference.{i64_e}

-- the sum that is kept as n
unfoldable pub sum_of : ℕ → ℤ
sum_of n = sub_ℕ n (2 ^ 63)

-- a difference added to it, once and c times
unfoldable pub plus : ℕ → ℤ → Option ℕ
plus n (pos m) = cond (ltb (n + m) (2 ^ 64)) (some (n + m)) none
plus n (negsuc m) = cond (ltb m n) (some (n - suc m)) none

unfoldable pub plus_times : ℕ → ℤ → ℕ → Option ℕ
plus_times n (pos m) c = cond (ltb (n + c * m) (2 ^ 64)) (some (n + c * m)) none
plus_times n (negsuc m) c = cond (leb (c * suc m) n) (some (n - c * suc m)) none

abbrev pub held_on : {A : Type 0} → Option A → (A → ℕ) → ℕ
held_on none k = 0
held_on (some m) k = k m

-- how many of c times it can be added: the sums that are kept before the first that cannot
unfoldable pub times_held : ℕ → ℤ → ℕ → ℕ
times_held n d zero = zero
times_held n d (suc c) = held_on (plus n d) (λ m. suc (times_held m d c))

-- the state between runs: the position, the readings so far, the sum so far
pub record Sofar : Type 0 where
  pub at : ℕ
  pub had : ℕ
  pub sum : ℕ

abbrev pub sofar : ℕ → ℕ → ℕ → Sofar
sofar at had sum = record { at = at; had = had; sum = sum }

abbrev pub with_sum : ℕ → Next Spot → Next Sofar
with_sum n over = over
with_sum n (on st) = on (sofar st.at st.had n)
with_sum n (off number place) = off number place

abbrev pub first : Reading ℤ → Run (Reading ℤ) Sofar → Run (Reading ℤ) Sofar
first x r = record { readings = x ∷ r.readings; next = r.next }

unfoldable pub summed : ℕ → Option ℕ → (ℕ → Run (Reading ℤ) Sofar) → Run (Reading ℤ) Sofar
summed place none k = cut 6 place
summed place (some n) k = first (present (sum_of n) place) (k n)

-- a run's differences added up from n on, and then what follows the run
unfoldable pub sum_run : ℕ → List (Reading ℤ) → Next Spot → Run (Reading ℤ) Sofar
sum_run n [] x = record { readings = []; next = with_sum n x }
sum_run n (absent ∷ rs) x = first absent (sum_run n rs x)
sum_run n (present d place ∷ rs) x = summed place (plus n d) (λ m. sum_run m rs x)

abbrev pub summing : ℕ → Run (Reading ℤ) Spot → Run (Reading ℤ) Sofar
summing n r = sum_run n r.readings r.next

unfoldable pub delta_run : List ℕ → Sofar → Run (Reading ℤ) Sofar
delta_run s st = summing st.sum (run_at i64_e s (spot st.at st.had))
