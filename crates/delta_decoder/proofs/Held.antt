-- How many of c additions of one difference are held, by a division: each takes its magnitude from the room that is left, so as many are held
-- as it goes into the room. Assumes nothing.
use Prim.Native.Nat.{ℕ, zero, suc, ◌+◌, ◌*◌, ◌-◌, ◌/◌, ◌^◌, ◌≤◌, ◌<◌, min}
use mathlib.Core.Path.{◌≡◌, refl, sym, ◌∙◌, ap}
use mathlib.Core.Option.{Option}
use native.Mathlib.Nat.{suc-mul, zero-mul, le-div_iff_mul-le, div-lt_iff_lt-mul}
use native.Mathlib.Numerals.{add-one}
use native.Mathlib.Omega.{arith}
use lib.Dec.{ltb}
use lib.IntN.{pos, negsuc}
use borrow.Author.Tests.{ltb-true, ltb-false}
use Rattle.encoding.proofs.Lists.{cond-by}
use Rattle.delta_decoder.specs.Sofar.{plus, held_on, times_held}
use Rattle.delta_decoder.proofs.Kept.{by_order}

-- ---- k of c times m go into a: all c, or the next one does not

abbrev Goes : ℕ → ℕ → ℕ → ℕ → Type 0
Goes m c a k = (k ≤ c) × (k * m ≤ a) × (k < c → a < suc k * m)

module _ (m : ℕ) where
  goes_none : (a : ℕ) → Goes m 0 a 0
  goes_none a = (omega arith, omega (arith, zero-mul m), λ l. absurd (omega arith))

  goes-stop : (c a : ℕ) → a < m → Goes m (suc c) a 0
  goes-stop c a l = (omega arith, omega (arith, zero-mul m), λ k. omega (arith, suc-mul 0 m, zero-mul m))

  goes_on : (c a k : ℕ) → m ≤ a → Goes m c (a - m) k → Goes m (suc c) a (suc k)
  goes_on c a k l h =
      let e = suc-mul k m in
      let f = suc-mul (suc k) m in
      let fits = h.1 in
      (omega (arith, h.0), omega (arith, fits, e), λ j. let next = h.2 (omega arith) in omega (arith, next, e, f))

  goes-min : (c a k : ℕ) → 0 < m → Goes m c a k → k ≡ min c (a / m)
  goes-min c a k p h =
      let most = h.0 in
      let fits : k ≤ a / m = (le-div_iff_mul-le p).1 h.1 in
      let next : k < c → a / m < suc k = λ l. (div-lt_iff_lt-mul p).1 (h.2 l) in
      by_order (k ≡ min c (a / m)) k c (λ l. let n = next l in omega arith) (λ l. omega arith)

-- ---- the additions that are held

fall : (m c n : ℕ) → Goes (suc m) c n (times_held n (negsuc m) c)
unfolding times_held plus
fall m zero n = goes_none (suc m) n
fall m (suc c) n =
    cond-by (λ (o : Option ℕ). Goes (suc m) (suc c) n (held_on o (λ j. suc (times_held j (negsuc m) c)))) (ltb m n)
    (λ t. let l = ltb-true m n t in goes_on (suc m) c n (times_held (n - suc m) (negsuc m) c) (omega arith) (fall m c (n - suc m)))
    (λ t. let l = ltb-false m n t in goes-stop (suc m) c n (omega arith))

rise : (m c n : ℕ) → n < 2 ^ 64 → Goes m c (2 ^ 64 - 1 - n) (times_held n (pos m) c)
unfolding times_held plus
rise m zero n b = goes_none m (2 ^ 64 - 1 - n)
rise m (suc c) n b =
    cond-by (λ (o : Option ℕ). Goes m (suc c) (2 ^ 64 - 1 - n) (held_on o (λ j. suc (times_held j (pos m) c)))) (ltb (n + m) (2 ^ 64))
    (λ t. let l = ltb-true (n + m) (2 ^ 64) t in
    let e : 2 ^ 64 - 1 - (n + m) ≡ 2 ^ 64 - 1 - n - m = omega arith in
    goes_on m c (2 ^ 64 - 1 - n) (times_held (n + m) (pos m) c) (omega arith) (rw e at (rise m c (n + m) l)))
    (λ t. let l = ltb-false (n + m) (2 ^ 64) t in goes-stop m c (2 ^ 64 - 1 - n) (omega arith))

-- ---- by the branches of the code, over a difference's magnitude

pub held-fall : (n m c : ℕ) → times_held n (negsuc m) c ≡ min c (n / (m + 1))
held-fall n m c = goes-min (suc m) c n _ (omega arith) (fall m c n) ∙ ap (λ (k : ℕ). min c (n / k)) (sym (add-one m))

pub held-rise : (n m c : ℕ) → n < 2 ^ 64 → 0 < m → times_held n (pos m) c ≡ min c ((2 ^ 64 - 1 - n) / m)
held-rise n m c b p = goes-min m c (2 ^ 64 - 1 - n) _ p (rise m c n b)

pub held-still : (n c : ℕ) → n < 2 ^ 64 → times_held n (pos 0) c ≡ c
unfolding times_held plus
held-still n zero b = refl
held-still n (suc c) b =
    cond-by (λ (o : Option ℕ). held_on o (λ j. suc (times_held j (pos 0) c)) ≡ suc c) (ltb (n + 0) (2 ^ 64))
    (λ t. ap suc (held-still (n + 0) c (omega arith))) (λ t. let l = ltb-false (n + 0) (2 ^ 64) t in absurd (omega arith))
