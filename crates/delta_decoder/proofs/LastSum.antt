-- The sum that the readings before a fault lead to. Of a repeated run as many additions as are held (`repeat-held`); of literals those that a loop adds (`Adding`); a run
-- that goes on hands it on, so that a loop over runs owes the same sum at each (`Leading`). Assumes nothing.
use Prim.Native.Nat.{ℕ, zero, suc, ◌+◌, ◌-◌, ◌^◌, ◌≤◌, ◌<◌}
use mathlib.Core.Path.{◌≡◌, refl, sym, ◌∙◌, ap, subst}
use mathlib.Core.List.{List, [], ◌∷◌, ◌++◌}
use mathlib.Core.Option.{Option, none, some}
use lib.IntN.{ℤ, pos}
use lib.ListN.{length, replicate}
use Rattle.leb128.specs.Got.{got, bad}
use Rattle.leb128.specs.Read.{i64_at}
use Rattle.encoding.specs.Column.{Reading, absent, present, Spot, spot, literals, run_at}
use Rattle.encoding.specs.Head.{Head, amiss, head_at}
use Rattle.encoding.specs.Walk.{Next, over, on, off, Run, Trace, after}
use Rattle.encoding.proofs.Columns.{repeated-got, repeated-bad, literals-none, literals-on, literals-off}
use Rattle.encoding.proofs.Walking.{rest, rest-is, next-eq, readings-eq}
use Rattle.delta_decoder.specs.Difference.{i64_e}
use Rattle.delta_decoder.specs.Sums.{delta_trace, last_sum}
use Rattle.delta_decoder.specs.Sofar.{sum_of, plus, plus_times, held_on, times_held, Sofar, sofar, with_sum, summed, sum_run, summing, delta_run}
use Rattle.delta_decoder.proofs.Deltas.{deltas, delta-rest, delta-repeat, delta-literal, delta-absent, delta-amiss, delta-end}
use Rattle.delta_decoder.proofs.Kept.{Kept, kept, Times, times, times_none}
use Rattle.delta_decoder.proofs.Readings.{literal-readings}
use Rattle.delta_decoder.proofs.Summing.{summing_on, summing-out, summing-end}

-- ---- a list of readings

last-append : (z : ℤ) (xs ys : List (Reading ℤ)) → last_sum z (xs ++ ys) ≡ last_sum (last_sum z xs) ys
last-append z [] ys = refl
last-append z (absent ∷ xs) ys = last-append z xs ys
last-append z (present a q ∷ xs) ys = last-append a xs ys

last-absent : (z : ℤ) (c : ℕ) → last_sum z (replicate c absent) ≡ z
last-absent z zero = refl
last-absent z (suc c) = last-absent z c

-- by the run that it is
last-run : {S : Type 0} (z : ℤ) {y : ℤ} {r t : Run (Reading ℤ) S} → r ≡ t → y ≡ last_sum z t.readings → y ≡ last_sum z r.readings
last-run z e k = k ∙ sym (ap (last_sum z) (readings-eq e))

-- ---- a repeated run

-- as many additions as are held lead to a sum that is kept, which is the last of the run's
abbrev Held : ℕ → ℤ → ℕ → ℕ → Type 0
Held n d c m = (plus_times n d (times_held n d c) ≡ some m) × ((q : ℕ) (x : Next Spot) → sum_of m ≡ last_sum (sum_of n) (sum_run n (replicate c (present d q)) x).readings)

held : (n : ℕ) (d : ℤ) (c : ℕ) → n < 2 ^ 64 → (m : ℕ) × Held n d c m
unfolding times_held sum_run summed
held n d zero l = (n, (times_none n d l, λ q x. refl))
held n d (suc c) l = go (plus n d) (λ k. times n d k) (kept n d l) (λ j b. held j d c b)
  where
    go : (o : Option ℕ) → ((k : ℕ) → Times n d k o) → Kept n d o → ((j : ℕ) → j < 2 ^ 64 → (m : ℕ) × Held j d c m)
        → (m : ℕ) × ((plus_times n d (held_on o (λ j. suc (times_held j d c))) ≡ some m)
        × ((q : ℕ) (x : Next Spot) → sum_of m ≡ last_sum (sum_of n) (summed q o (λ j. sum_run j (replicate c (present d q)) x)).readings))
    go none t k h = (n, (times_none n d l, λ q x. refl))
    go (some j) t k h = let r = h j k.1 in (r.0, (t (times_held j d c) ∙ r.1.0, r.1.1))

pub repeat-held : (n : ℕ) (d : ℤ) (c : ℕ) → n < 2 ^ 64 → (m : ℕ) × (plus_times n d (times_held n d c) ≡ some m)
repeat-held n d c l = let h = held n d c l in (h.0, h.1.0)

repeat-last : (n : ℕ) (d : ℤ) (c q r : ℕ) (x : Next Spot) → n < 2 ^ 64 → plus_times n d (times_held n d c) ≡ some r
    → sum_of r ≡ last_sum (sum_of n) (sum_run n (replicate c (present d q)) x).readings
repeat-last n d c q r x l e =
    let h = held n d c l in
    let k : r ≡ h.0 = let j : some r ≡ some h.0 = sym e ∙ h.1.0 in cc in
    ap sum_of k ∙ h.1.1 q x

-- ---- literal differences

-- a loop over literals: those from q on, on the sum n, lead to the sum that is asked
abbrev pub Adding : List ℕ → ℤ → ℕ → ℕ → ℕ → Type 0
Adding s z c q n = z ≡ last_sum (sum_of n) (summing n (literals i64_e s 0 c q)).readings

module _ (s : List ℕ) {z : ℤ} (c q n : ℕ) (h : Adding s z c q n) where
  pub adding-on : (d : ℤ) (next m : ℕ) → 0 < c → i64_at s q ≡ got d next → plus n d ≡ some m → Adding s z (c - 1) next m
  adding-on d next m l r o = h ∙ ap (λ (t : Run (Reading ℤ) Sofar). last_sum (sum_of n) t.readings) (summing_on n (literals-on i64_e s 0 c q next d l r) m o)

  adding-none : (summing n (literals i64_e s 0 c q)).readings ≡ [] → sum_of n ≡ z
  adding-none e = sym (h ∙ ap (last_sum (sum_of n)) e)

  pub adding-out : (d : ℤ) (next : ℕ) → 0 < c → i64_at s q ≡ got d next → plus n d ≡ none → sum_of n ≡ z
  adding-out d next l r o = adding-none (readings-eq (summing-out n (literals-on i64_e s 0 c q next d l r) o))

  pub adding-unread : (number place : ℕ) → 0 < c → i64_at s q ≡ bad number place → sum_of n ≡ z
  adding-unread number place l r = adding-none (readings-eq (summing-end n (literals-off i64_e s 0 c q number place l r)))

  pub adding-end : c ≤ 0 → sum_of n ≡ z
  adding-end l = adding-none (readings-eq (summing-end n (literals-none i64_e s 0 c q l)))

-- ---- a run by how it begins

module _ (s : List ℕ) (at had n : ℕ) (l : at < length s) where
  abbrev Last : ℕ → Type 0
  Last r = sum_of r ≡ last_sum (sum_of n) (delta_run s (sofar at had n)).readings

  pub last-repeat : (c q : ℕ) → head_at s at had ≡ Head.repeat c q → (d : ℤ) (z r : ℕ) → i64_at s q ≡ got d z → n < 2 ^ 64
      → plus_times n d (times_held n d c) ≡ some r → Last r
  last-repeat c q e d z r g b k =
      last-run (sum_of n) (delta-repeat s at had n c q l e ∙ ap (summing n) (repeated-got had c q z d (i64_at s q) g)) (repeat-last n d c q r (on (spot z (had + c))) b k)

  pub last-unread : (c q : ℕ) → head_at s at had ≡ Head.repeat c q → (number place : ℕ) → i64_at s q ≡ bad number place → Last n
  last-unread c q e number place g = last-run (sum_of n) (delta-repeat s at had n c q l e ∙ summing-end n (repeated-bad had c q number place (i64_at s q) g)) refl

  pub last-literal : (c q : ℕ) → head_at s at had ≡ Head.literal c q → (r : ℕ)
      → sum_of r ≡ last_sum (sum_of n) (summing n (literals i64_e s 0 c q)).readings → Last r
  last-literal c q e r k = last-run (sum_of n) (delta-literal s at had n c q l e) (k ∙ ap (last_sum (sum_of n)) (literal-readings n s 0 (had + c) c q))

  pub last_none : (c q : ℕ) → head_at s at had ≡ Head.absent c q → Last n
  last_none c q e = last-run (sum_of n) (delta-absent s at had n c q l e) (sym (last-absent (sum_of n) c))

  pub last-amiss : (number place : ℕ) → head_at s at had ≡ amiss number place → Last n
  last-amiss number place e = last-run (sum_of n) (delta-amiss s at had n number place l e) refl

-- ---- run after run

-- what is handed on is the sum of the run's readings
abbrev HandedSum : ℤ → Next Sofar → Type 0
HandedSum z over = Unit {0}
HandedSum z (on st) = z ≡ sum_of st.sum
HandedSum z (off number place) = Unit {0}

handed-end : (n : ℕ) (x : Next Spot) → HandedSum (sum_of n) (with_sum n x)
handed-end n over = tt
handed-end n (on st) = refl
handed-end n (off number place) = tt

handed-sum : (n : ℕ) (rs : List (Reading ℤ)) (x : Next Spot) → HandedSum (last_sum (sum_of n) (sum_run n rs x).readings) (sum_run n rs x).next
unfolding sum_run summed
handed-sum n [] x = handed-end n x
handed-sum n (absent ∷ rs) x = handed-sum n rs x
handed-sum n (present d q ∷ rs) x = go (plus n d) (λ m. handed-sum m rs x)
  where
    go : (o : Option ℕ) → ((m : ℕ) → HandedSum (last_sum (sum_of m) (sum_run m rs x).readings) (sum_run m rs x).next)
        → HandedSum (last_sum (sum_of n) (summed q o (λ m. sum_run m rs x)).readings) (summed q o (λ m. sum_run m rs x)).next
    go none h = tt
    go (some m) h = h m

-- a loop over runs: the readings from a state on, on its sum, lead to the sum that is asked
abbrev pub Leading : List ℕ → ℤ → Sofar → Type 0
Leading s z st = z ≡ last_sum (sum_of st.sum) (rest (deltas s) st).readings

pub leading-start : (s : List ℕ) → Leading s (last_sum (pos 0) (delta_trace s).readings) (sofar 0 0 (2 ^ 63))
unfolding sum_of
leading-start s = ap (λ (t : Trace (Reading ℤ)). last_sum (pos 0) t.readings) (delta-rest s)

module _ (s : List ℕ) {z : ℤ} (st : Sofar) (h : Leading s z st) where
  handed-on : (y : Sofar) → (delta_run s st).next ≡ on y → last_sum (sum_of st.sum) (delta_run s st).readings ≡ sum_of y.sum
  unfolding delta_run
  handed-on y e =
      let r = run_at i64_e s (spot st.at st.had) in
      subst (HandedSum (last_sum (sum_of st.sum) (sum_run st.sum r.readings r.next).readings)) e (handed-sum st.sum r.readings r.next)

  leading-is : (x : Next Sofar) → (delta_run s st).next ≡ x → z ≡ last_sum (last_sum (sum_of st.sum) (delta_run s st).readings) (after x (rest (deltas s))).readings
  leading-is x e =
      h ∙ ap (λ (t : Trace (Reading ℤ)). last_sum (sum_of st.sum) t.readings) (rest-is (deltas s) st x e)
      ∙ last-append (sum_of st.sum) (delta_run s st).readings (after x (rest (deltas s))).readings

  pub leading-on : (y : Sofar) → (delta_run s st).next ≡ on y → Leading s z y
  leading-on y e = leading-is (on y) e ∙ ap (λ (x : ℤ). last_sum x (rest (deltas s) y).readings) (handed-on y e)

  pub leading-off : (number place : ℕ) → (delta_run s st).next ≡ off number place → last_sum (sum_of st.sum) (delta_run s st).readings ≡ z
  leading-off number place e = sym (leading-is (off number place) e)

  pub leading_end : length s ≤ st.at → sum_of st.sum ≡ z
  leading_end l =
      let e = delta-end s st.at st.had st.sum l in
      sym (leading-is over (next-eq e) ∙ ap (last_sum (sum_of st.sum)) (readings-eq e))
