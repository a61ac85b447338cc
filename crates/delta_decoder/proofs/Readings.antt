-- How many readings of a run stand before its fault: of a repeated run as many as its difference can be added (`repeated-length`); of literals
-- those that a loop counts (`Counted`), whatever came before them (`literal-length`); never so many that the limit is passed (`delta-within`).
-- Assumes nothing.
use Prim.Native.Nat.{ℕ, zero, suc, ◌+◌, ◌-◌, ◌≤◌, ◌<◌}
use mathlib.Core.Path.{◌≡◌, refl, sym, ◌∙◌, ap}
use mathlib.Core.List.{List, [], ◌∷◌}
use mathlib.Core.Option.{Option, none, some}
use native.Mathlib.Omega.{arith}
use lib.IntN.{ℤ}
use lib.ListN.{length, replicate}
use Rattle.leb128.specs.Got.{Got, got, bad}
use Rattle.leb128.specs.Read.{i64_at}
use Rattle.encoding.specs.Limit.{limit}
use Rattle.encoding.specs.Walk.{Next, on, Run}
use Rattle.encoding.specs.Column.{Reading, absent, present, Spot, spot, repeated, literals, run_at}
use Rattle.encoding.proofs.Columns.{repeated-got, repeated-bad, literals-none, literals-on, literals-off}
use Rattle.encoding.proofs.Limits.{run-limit}
use Rattle.encoding.proofs.Reading.{literals-total}
use Rattle.encoding.proofs.Walking.{readings-eq}
use Rattle.delta_decoder.specs.Difference.{i64_e}
use Rattle.delta_decoder.specs.Sofar.{sum_of, plus, held_on, times_held, Sofar, sofar, summed, sum_run, summing, delta_run}
use Rattle.delta_decoder.proofs.Summing.{summing_on, summing-out, summing-end}

-- ---- a run of sums

-- what follows a run does not change its readings
sum-readings : (n : ℕ) (rs : List (Reading ℤ)) (x y : Next Spot) → (sum_run n rs x).readings ≡ (sum_run n rs y).readings
unfolding sum_run summed
sum-readings n [] x y = refl
sum-readings n (absent ∷ rs) x y = ap (λ (xs : List (Reading ℤ)). absent ∷ xs) (sum-readings n rs x y)
sum-readings n (present d q ∷ rs) x y = go (plus n d) (λ m. sum-readings m rs x y)
  where
    go : (o : Option ℕ) → ((m : ℕ) → (sum_run m rs x).readings ≡ (sum_run m rs y).readings)
        → (summed q o (λ m. sum_run m rs x)).readings ≡ (summed q o (λ m. sum_run m rs y)).readings
    go none h = refl
    go (some m) h = ap (λ (xs : List (Reading ℤ)). present (sum_of m) q ∷ xs) (h m)

-- it has no more readings than differences
sum-most : (n : ℕ) (rs : List (Reading ℤ)) (x : Next Spot) → length (sum_run n rs x).readings ≤ length rs
unfolding sum_run summed
sum-most n [] x = omega arith
sum-most n (absent ∷ rs) x = let h = sum-most n rs x in omega arith
sum-most n (present d q ∷ rs) x = go (plus n d) (λ m. sum-most m rs x)
  where
    go : (o : Option ℕ) → ((m : ℕ) → length (sum_run m rs x).readings ≤ length rs) → length (summed q o (λ m. sum_run m rs x)).readings ≤ suc (length rs)
    go none h = omega arith
    go (some m) h = let k = h m in omega arith

-- ---- a repeated run

same_length : (n : ℕ) (d : ℤ) (c q : ℕ) (x : Next Spot) → length (sum_run n (replicate c (present d q)) x).readings ≡ times_held n d c
unfolding sum_run summed times_held
same_length n d zero q x = refl
same_length n d (suc c) q x = go (plus n d) (λ m. same_length m d c q x)
  where
    go : (o : Option ℕ) → ((m : ℕ) → length (sum_run m (replicate c (present d q)) x).readings ≡ times_held m d c)
        → length (summed q o (λ m. sum_run m (replicate c (present d q)) x)).readings ≡ held_on o (λ m. suc (times_held m d c))
    go none h = refl
    go (some m) h = ap suc (h m)

pub repeated-length : (n had c q z : ℕ) (d : ℤ) (g : Got ℤ) → g ≡ got d z → times_held n d c ≡ length (summing n (repeated had c q g)).readings
repeated-length n had c q z d g e =
    sym (ap (λ (r : Run (Reading ℤ) Spot). length (summing n r).readings) (repeated-got had c q z d g e) ∙ same_length n d c q (on (spot z (had + c))))

pub repeated-unread : (n had c q number place : ℕ) (g : Got ℤ) → g ≡ bad number place → 0 ≡ length (summing n (repeated had c q g)).readings
repeated-unread n had c q number place g e = sym (ap length (readings-eq (summing-end n (repeated-bad had c q number place g e))))

-- ---- literal differences

pub literal-readings : (n : ℕ) (s : List ℕ) (t u c q : ℕ) → (summing n (literals i64_e s t c q)).readings ≡ (summing n (literals i64_e s u c q)).readings
literal-readings n s t u c q =
    sum-readings n (literals i64_e s t c q).readings (literals i64_e s t c q).next (literals i64_e s u c q).next
    ∙ ap (λ (rs : List (Reading ℤ)). (sum_run n rs (literals i64_e s u c q).next).readings) (literals-total i64_e s t c q ∙ sym (literals-total i64_e s u c q))

pub literal-length : (n : ℕ) (s : List ℕ) (t u c q : ℕ)
    → length (summing n (literals i64_e s t c q)).readings ≡ length (summing n (literals i64_e s u c q)).readings
literal-length n s t u c q = ap length (literal-readings n s t u c q)

-- a loop over literals: of `all` sums that are held so many were counted, and those of the literals from q on are left
abbrev pub Counted : List ℕ → ℕ → ℕ → ℕ → ℕ → ℕ → Type 0
Counted s c all read q n = (read ≤ c) × (all ≡ read + length (summing n (literals i64_e s 0 (c - read) q)).readings)

module _ (s : List ℕ) (c : ℕ) where
  pub counted_start : (q n : ℕ) → Counted s c (length (summing n (literals i64_e s 0 c q)).readings) 0 q n
  counted_start q n =
      let e : c ≡ c - 0 = omega arith in
      let k = ap (λ (j : ℕ). length (summing n (literals i64_e s 0 j q)).readings) e in
      (omega arith, omega (arith, k))

  module _ (all read q n : ℕ) (h : Counted s c all read q n) where
    -- one more is read, and its sum is held
    pub counted-on : (d : ℤ) (z m : ℕ) → read < c → i64_at s q ≡ got d z → plus n d ≡ some m → Counted s c all (read + 1) z m
    counted-on d z m l r o =
        let e = summing_on n (literals-on i64_e s 0 (c - read) q z d (omega arith) r) m o in
        let f : c - read - 1 ≡ c - (read + 1) = omega arith in
        let k = ap (λ (r : Run (Reading ℤ) Sofar). length r.readings) e in
        let j = ap (λ (j : ℕ). length (summing m (literals i64_e s 0 j z)).readings) f in
        (omega arith, omega (arith, h.1, k, j))

    counted-all : (summing n (literals i64_e s 0 (c - read) q)).readings ≡ [] → read ≡ all
    counted-all e = let k = ap length e in omega (arith, h.1, k)

    -- its sum is not held; it is not read; none is left
    pub counted-out : (d : ℤ) (z : ℕ) → read < c → i64_at s q ≡ got d z → plus n d ≡ none → read ≡ all
    counted-out d z l r o = counted-all (readings-eq (summing-out n (literals-on i64_e s 0 (c - read) q z d (omega arith) r) o))

    pub counted-unread : (number place : ℕ) → read < c → i64_at s q ≡ bad number place → read ≡ all
    counted-unread number place l r = counted-all (readings-eq (summing-end n (literals-off i64_e s 0 (c - read) q number place (omega arith) r)))

    pub counted-end : c ≤ read → read ≡ all
    counted-end l = counted-all (readings-eq (summing-end n (literals-none i64_e s 0 (c - read) q (omega arith))))

-- ---- the readings of a run stay within the limit

pub delta-within : (s : List ℕ) (at had n : ℕ) → had ≤ limit → had + length (delta_run s (sofar at had n)).readings ≤ limit
unfolding delta_run
delta-within s at had n l =
    let r = run_at i64_e s (spot at had) in
    omega (arith, run-limit i64_e s (spot at had) l, sum-most n r.readings r.next)

-- the number of a run's readings, by the run that it is
pub run-counted : (s : List ℕ) (at had n r : ℕ) (t : Run (Reading ℤ) Sofar) → had ≤ limit → delta_run s (sofar at had n) ≡ t → r ≡ length t.readings
    → (r ≡ length (delta_run s (sofar at had n)).readings) × (had + r ≤ limit)
run-counted s at had n r t l e h =
    let k : r ≡ length (delta_run s (sofar at had n)).readings = h ∙ sym (ap length (readings-eq e)) in
    (k, omega (arith, delta-within s at had n l, k))
