-- Laws of one difference added over and over, as long as an i64 holds the sums: each sum that is counted is held (`held-each`), and the next is not
-- (`held-over`); so many times a difference is its multiple (`each-times`); and the same by sums that are kept as unsigned numbers, as the code has them
-- (`held-behind`). Assumes nothing.
use Prim.Native.Nat.{ℕ, zero, suc, ◌+◌, ◌*◌, ◌-◌, ◌^◌, ◌≤◌, ◌<◌}
use mathlib.Core.Path.{◌≡◌, refl, sym, ◌∙◌, ap}
use mathlib.Core.Bool.{Bool, true, false, cond}
use mathlib.Core.Option.{Option, none, some}
use native.Mathlib.Nat.{mul-zero}
use native.Mathlib.Omega.{arith}
use lib.IntN.{ℤ, pos, negsuc, ◌+ℤ◌, ◌*ℤ◌, +ℤ_idr, +ℤ_assoc, +ℤ_comm, zero-*ℤ, suc_ℤ-*ℤ}
use Rattle.delta_decoder.specs.Difference.{holds}
use Rattle.delta_decoder.specs.Sums.{held_sum}
use Rattle.delta_decoder.specs.Sofar.{sum_of, plus, plus_times, held_on, times_held}
use Rattle.delta_decoder.proofs.Held.{held-fall, held-rise}
use Rattle.delta_decoder.proofs.Kept.{Kept, kept, Times, times, times_none, within}
use Rattle.pieces.specs.Delta.{plus_each, held_each}

-- ---- sums

-- a sum that is held is the sum
held-is : (z d y : ℤ) → held_sum z d ≡ some y → z +ℤ d ≡ y
unfolding held_sum
held-is z d y = go (holds (z +ℤ d))
  where
    go : (b : Bool) → cond b (some (z +ℤ d)) none ≡ some y → z +ℤ d ≡ y
    go true e = cc
    go false e = cc

pub held-most : (d : ℤ) (n : ℕ) (z : ℤ) → held_each z d n ≤ n
unfolding held_each
held-most d zero z = omega arith
held-most d (suc n) z = go (held_sum z d) (λ y. held-most d n y)
  where
    go : (o : Option ℤ) → ((y : ℤ) → held_each y d n ≤ n) → held_on o (λ y. suc (held_each y d n)) ≤ suc n
    go none ih = omega arith
    go (some y) ih = let h = ih y in omega arith

pub held-each : (d : ℤ) (n i : ℕ) (z : ℤ) → i < held_each z d n → held_sum (plus_each z d i) d ≡ some (plus_each z d (suc i))
unfolding held_each plus_each
held-each d zero i z l = absurd (omega arith)
held-each d (suc n) i z l = go (held_sum z d) refl i l (λ j y h. held-each d n j y h)
  where
    go : (o : Option ℤ) → held_sum z d ≡ o → (i : ℕ) → i < held_on o (λ y. suc (held_each y d n))
        → ((j : ℕ) (y : ℤ) → j < held_each y d n → held_sum (plus_each y d j) d ≡ some (plus_each y d (suc j)))
        → held_sum (plus_each z d i) d ≡ some (plus_each z d (suc i))
    go none e i l ih = absurd (omega arith)
    go (some y) e zero l ih = e ∙ ap some (sym (held-is z d y e))
    go (some y) e (suc i) l ih = ap (λ (x : ℤ). held_sum (plus_each x d i) d) (held-is z d y e) ∙ ih i y (omega arith) ∙ sym (ap (λ (x : ℤ). some (plus_each x d (suc i))) (held-is z d y e))

-- fewer than all are held where the next is not
pub held-over : (d : ℤ) (n : ℕ) (z : ℤ) → held_each z d n < n → held_sum (plus_each z d (held_each z d n)) d ≡ none
unfolding held_each plus_each
held-over d zero z l = absurd (omega arith)
held-over d (suc n) z l = go (held_sum z d) refl l (λ y h. held-over d n y h)
  where
    go : (o : Option ℤ) → held_sum z d ≡ o → held_on o (λ y. suc (held_each y d n)) < suc n
        → ((y : ℤ) → held_each y d n < n → held_sum (plus_each y d (held_each y d n)) d ≡ none)
        → held_sum (plus_each z d (held_on o (λ y. suc (held_each y d n)))) d ≡ none
    go none e l ih = e
    go (some y) e l ih = ap (λ (x : ℤ). held_sum (plus_each x d (held_each y d n)) d) (held-is z d y e) ∙ ih y (omega arith)

-- n times a difference more
pub each-times : (d : ℤ) (n : ℕ) (z : ℤ) → plus_each z d n ≡ z +ℤ (pos n *ℤ d)
unfolding plus_each
each-times d zero z = sym (ap (λ (x : ℤ). z +ℤ x) (zero-*ℤ d) ∙ +ℤ_idr z)
each-times d (suc n) z =
    each-times d n (z +ℤ d) ∙ +ℤ_assoc z d (pos n *ℤ d) ∙ ap (λ (x : ℤ). z +ℤ x) (+ℤ_comm d (pos n *ℤ d) ∙ sym (suc_ℤ-*ℤ (pos n) d))

-- ---- the same by sums that are kept as unsigned numbers

pub times-most : (d : ℤ) (c n : ℕ) → times_held n d c ≤ c
unfolding times_held
times-most d zero n = omega arith
times-most d (suc c) n = go (plus n d) (λ m. times-most d c m)
  where
    go : (o : Option ℕ) → ((m : ℕ) → times_held m d c ≤ c) → held_on o (λ m. suc (times_held m d c)) ≤ suc c
    go none ih = omega arith
    go (some m) ih = let h = ih m in omega arith

-- all that are held are held again
pub times-again : (d : ℤ) (c n : ℕ) → times_held n d (times_held n d c) ≡ times_held n d c
unfolding times_held
times-again d zero n = refl
times-again d (suc c) n = go (plus n d) refl (λ m. times-again d c m)
  where
    go : (o : Option ℕ) → plus n d ≡ o → ((m : ℕ) → times_held m d (times_held m d c) ≡ times_held m d c)
        → times_held n d (held_on o (λ m. suc (times_held m d c))) ≡ held_on o (λ m. suc (times_held m d c))
    go none e ih = refl
    go (some m) e ih = ap (λ (o : Option ℕ). held_on o (λ j. suc (times_held j d (times_held m d c)))) e ∙ ap suc (ih m)

held_same : (d : ℤ) (c n : ℕ) → n < 2 ^ 64 → held_each (sum_of n) d c ≡ times_held n d c
unfolding held_each times_held
held_same d zero n l = refl
held_same d (suc c) n l = go (plus n d) (kept n d l) (λ m h. held_same d c m h)
  where
    go : (o : Option ℕ) → Kept n d o → ((m : ℕ) → m < 2 ^ 64 → held_each (sum_of m) d c ≡ times_held m d c)
        → held_on (held_sum (sum_of n) d) (λ y. suc (held_each y d c)) ≡ held_on o (λ m. suc (times_held m d c))
    go none e ih = ap (λ (o : Option ℤ). held_on o (λ y. suc (held_each y d c))) e
    go (some m) e ih = ap (λ (o : Option ℤ). held_on o (λ y. suc (held_each y d c))) e.0 ∙ ap suc (ih m e.1)

sum_same : (d : ℤ) (c n m : ℕ) → n < 2 ^ 64 → times_held n d c ≡ c → plus_times n d c ≡ some m → sum_of m ≡ plus_each (sum_of n) d c
unfolding plus_each times_held
sum_same d zero n m l h e = let j : some n ≡ some m = sym (times_none n d l) ∙ e in let k : n ≡ m = cc in ap sum_of (sym k)
sum_same d (suc c) n m l h e = go (plus n d) refl (times n d c) (kept n d l) (λ j b f g. sum_same d c j m b f g)
  where
    go : (o : Option ℕ) → plus n d ≡ o → Times n d c o → Kept n d o
        → ((j : ℕ) → j < 2 ^ 64 → times_held j d c ≡ c → plus_times j d c ≡ some m → sum_of m ≡ plus_each (sum_of j) d c)
        → sum_of m ≡ plus_each (sum_of n +ℤ d) d c
    go none o t k ih = let z : ◌≡◌ {A = ℕ} 0 (suc c) = sym (ap (λ (o : Option ℕ). held_on o (λ j. suc (times_held j d c))) o) ∙ h in absurd (omega arith)
    go (some j) o t k ih =
        let f : suc (times_held j d c) ≡ suc c = sym (ap (λ (o : Option ℕ). held_on o (λ j. suc (times_held j d c))) o) ∙ h in
        ih j k.1 (omega arith) (sym t ∙ e) ∙ sym (ap (λ (x : ℤ). plus_each x d c) (held-is (sum_of n) d (sum_of j) k.0))

-- how many of c are held from the sum z, and the sum behind them, where n is z as it is kept
pub held-behind : (d z : ℤ) (c n m y : ℕ) → n < 2 ^ 64 → sum_of n ≡ z → m ≡ times_held n d c → plus_times n d m ≡ some y
    → (m ≡ held_each z d c) × (sum_of y ≡ plus_each z d m)
held-behind d z c n m y l e h g =
    let again : times_held n d m ≡ m = ap (times_held n d) h ∙ times-again d c n ∙ sym h in
    (h ∙ sym (held_same d c n l) ∙ ap (λ (x : ℤ). held_each x d c) e, sum_same d m n y l again g ∙ ap (λ (x : ℤ). plus_each x d m) e)

-- ---- by the branches of the code, over a difference's magnitude

module _ (n m c : ℕ) where
  pub fall-fits : times_held n (negsuc m) c ≡ c → c * (m + 1) ≤ n
  fall-fits h = let e = held-fall n m c in within c (m + 1) n (omega arith) (omega arith)

  pub rise-fits : n < 2 ^ 64 → times_held n (pos m) c ≡ c → n + c * m < 2 ^ 64
  rise-fits l h = go m h
    where
      go : (m : ℕ) → times_held n (pos m) c ≡ c → n + c * m < 2 ^ 64
      go zero h = omega (arith, mul-zero c)
      go (suc m) h =
          let e = held-rise n (suc m) c l (omega arith) in
          let w = within c (suc m) (2 ^ 64 - 1 - n) (omega arith) (omega arith) in
          omega arith
