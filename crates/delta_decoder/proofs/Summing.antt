-- Laws of runs whose differences are added up: c additions of one difference (`repeated-next`), absent readings, single differences one by
-- one; and what such a run hands on (`on-handed`). Assumes nothing.
use Prim.Native.Nat.{ℕ, zero, suc, ◌+◌, ◌-◌, ◌^◌, ◌≤◌, ◌<◌}
use mathlib.Core.Path.{◌≡◌, refl, sym, ◌∙◌, ap, subst}
use mathlib.Core.List.{List, [], ◌∷◌}
use mathlib.Core.Option.{Option, none, some}
use native.Mathlib.Omega.{arith}
use lib.IntN.{ℤ}
use lib.ListN.{length, replicate}
use Rattle.leb128.specs.Got.{Got, got}
use Rattle.encoding.specs.Walk.{Next, over, on, off, Run, cut}
use Rattle.encoding.specs.Column.{Reading, absent, present, Spot, spot, repeated, ahead}
use Rattle.encoding.proofs.Columns.{repeated-got}
use Rattle.delta_decoder.specs.Sofar.{sum_of, plus, plus_times, Sofar, with_sum, first, summed, sum_run, summing}
use Rattle.delta_decoder.proofs.Kept.{Kept, kept, Times, times, times_none}

-- ---- one difference over and over

-- what follows the additions, by their outcome
abbrev pub decided : Option ℕ → ℕ → Next Spot → Next Sofar
decided none q x = off 6 q
decided (some m) q x = with_sum m x

repeat-next : (n : ℕ) (d : ℤ) (c q : ℕ) (x : Next Spot) → n < 2 ^ 64
    → (sum_run n (replicate c (present d q)) x).next ≡ decided (plus_times n d c) q x
unfolding sum_run summed
repeat-next n d zero q x l = sym (ap (λ (o : Option ℕ). decided o q x) (times_none n d l))
repeat-next n d (suc c) q x l = go (plus n d) (times n d c) (kept n d l) (λ m b. repeat-next m d c q x b)
  where
    go : (o : Option ℕ) → Times n d c o → Kept n d o
        → ((m : ℕ) → m < 2 ^ 64 → (sum_run m (replicate c (present d q)) x).next ≡ decided (plus_times m d c) q x)
        → (summed q o (λ m. sum_run m (replicate c (present d q)) x)).next ≡ decided (plus_times n d (suc c)) q x
    go none t k h = sym (ap (λ (o : Option ℕ). decided o q x) t)
    go (some m) t k h = h m k.1 ∙ sym (ap (λ (o : Option ℕ). decided o q x) t)

pub repeated-next : (n had c q z : ℕ) (d : ℤ) (g : Got ℤ) (o : Option ℕ) → n < 2 ^ 64 → g ≡ got d z → plus_times n d c ≡ o
    → (summing n (repeated had c q g)).next ≡ decided o q (on (spot z (had + c)))
repeated-next n had c q z d g o l e h =
    ap (λ (r : Run (Reading ℤ) Spot). (summing n r).next) (repeated-got had c q z d g e)
    ∙ repeat-next n d c q (on (spot z (had + c))) l ∙ ap (λ (o : Option ℕ). decided o q (on (spot z (had + c)))) h

-- ---- a run's differences added up

-- absent readings change no sum
pub sum-absent : (n c : ℕ) (x : Next Spot) → sum_run n (replicate c absent) x ≡ record { readings = replicate c absent; next = with_sum n x }
unfolding sum_run
sum-absent n zero x = refl
sum-absent n (suc c) x = ap (first absent) (sum-absent n c x)

-- what is handed on is the run's own next state, with some sum; and then every reading has its sum
abbrev Handed : ℕ → Next Spot → ℕ → Next Sofar → Type 0
Handed k x n over = Unit {0}
Handed k x n (on z) = (x ≡ on (spot z.at z.had)) × (n ≡ k)
Handed k x n (off number place) = Unit {0}

handed-end : (n : ℕ) (x : Next Spot) → Handed 0 x 0 (with_sum n x)
handed-end n over = tt
handed-end n (on z) = (refl, refl)
handed-end n (off number place) = tt

handed-first : (k n : ℕ) (x : Next Spot) (y : Next Sofar) → Handed k x n y → Handed (suc k) x (suc n) y
handed-first k n x over h = tt
handed-first k n x (on z) h = (h.0, ap suc h.1)
handed-first k n x (off number place) h = tt

handed : (n : ℕ) (rs : List (Reading ℤ)) (x : Next Spot) → Handed (length rs) x (length (sum_run n rs x).readings) (sum_run n rs x).next
unfolding sum_run summed
handed n [] x = handed-end n x
handed n (absent ∷ rs) x = handed-first (length rs) (length (sum_run n rs x).readings) x (sum_run n rs x).next (handed n rs x)
handed n (present d q ∷ rs) x = go (plus n d) (λ m. handed m rs x)
  where
    go : (o : Option ℕ) → ((m : ℕ) → Handed (length rs) x (length (sum_run m rs x).readings) (sum_run m rs x).next)
        → Handed (suc (length rs)) x (length (summed q o (λ m. sum_run m rs x)).readings) (summed q o (λ m. sum_run m rs x)).next
    go none h = tt
    go (some m) h = handed-first (length rs) (length (sum_run m rs x).readings) x (sum_run m rs x).next (h m)

pub on-handed : (n : ℕ) (rs : List (Reading ℤ)) (x : Next Spot) (z : Sofar) → (sum_run n rs x).next ≡ on z
    → (x ≡ on (spot z.at z.had)) × (length (sum_run n rs x).readings ≡ length rs)
on-handed n rs x z e = subst (Handed (length rs) x (length (sum_run n rs x).readings)) e (handed n rs x)

-- ---- one difference after another

-- a run of c equal readings begins with one
pub replicate-first : {R S : Type 0} (c : ℕ) (x : R) (y : Next S) → 0 < c
    → ◌≡◌ {A = Run R S} (record { readings = replicate c x; next = y }) (record { readings = x ∷ replicate (c - 1) x; next = y })
replicate-first zero x y l = absurd (omega arith)
replicate-first (suc c) x y l =
    let e : c ≡ suc c - 1 = omega arith in
    ap (λ (k : ℕ). record { readings = x ∷ replicate k x; next = y }) e

pub replicate-none : {R S : Type 0} (c : ℕ) (x : R) (y : Next S) → c ≤ 0
    → ◌≡◌ {A = Run R S} (record { readings = replicate c x; next = y }) (record { readings = []; next = y })
replicate-none zero x y l = refl
replicate-none (suc c) x y l = absurd (omega arith)

module _ (n : ℕ) {r : Run (Reading ℤ) Spot} where
  -- a difference comes first: its sum is held and comes first of the sums, or it is not
  module _ {d : ℤ} {q : ℕ} {t : Run (Reading ℤ) Spot} (e : r ≡ ahead (present d q) t) where
    pub summing_on : (m : ℕ) → plus n d ≡ some m → summing n r ≡ first (present (sum_of m) q) (summing m t)
    unfolding sum_run summed
    summing_on m h = ap (λ (r : Run (Reading ℤ) Spot). summing n r) e ∙ ap (λ (o : Option ℕ). summed q o (λ m. summing m t)) h

    pub summing-out : plus n d ≡ none → summing n r ≡ cut 6 q
    unfolding sum_run summed
    summing-out h = ap (λ (r : Run (Reading ℤ) Spot). summing n r) e ∙ ap (λ (o : Option ℕ). summed q o (λ m. summing m t)) h

  -- no reading comes
  pub summing-end : {x : Next Spot} → r ≡ record { readings = []; next = x } → summing n r ≡ record { readings = []; next = with_sum n x }
  unfolding sum_run
  summing-end e = ap (λ (r : Run (Reading ℤ) Spot). summing n r) e
