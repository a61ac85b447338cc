-- Laws of sums that are kept. The sum kept as n is n - 2^63: a difference leads out of i64 just where the kept number leaves u64 (`kept`).
-- c additions of one difference rise or fall, so the last one decides (`times`). And both by the branches of the code. Assumes nothing.
use Prim.Native.Nat.{ℕ, suc, ◌+◌, ◌*◌, ◌-◌, ◌/◌, ◌^◌, ◌≤◌, ◌<◌}
use mathlib.Core.Path.{◌≡◌, refl, sym, ◌∙◌, ap}
use mathlib.Core.Option.{Option, none, some}
use mathlib.Core.Bool.{Bool, true, false, cond}
use native.Mathlib.Nat.{suc-mul, zero-mul, mul-zero, le-div_iff_mul-le, div-lt_iff_lt-mul}
use native.Mathlib.Numerals.{add-one}
use native.Mathlib.Omega.{arith}
use lib.Dec.{ltb, leb}
use lib.IntN.{ℤ, pos, negsuc, sub_ℕ, ◌+ℤ◌}
use lib.Signed.{mag, lt_z}
use mir.Syntax.{w64}
use mir.Val.{SFits, to_z, of_z}
use borrow.Author.Tests.{ltb-true, ltb-false, lt-ltb, le-ltb, le-leb, lt-leb}
use Rattle.leb128.proofs.Twos.{is-neg, is_pos, same}
use Rattle.encoding.proofs.Lists.{cond-by}
use Rattle.delta_decoder.specs.Difference.{holds}
use Rattle.delta_decoder.specs.Sums.{held_sum}
use Rattle.delta_decoder.specs.Sofar.{sum_of, plus, plus_times}

-- ---- a difference of two naturals

below : (a b : ℕ) → a < b → sub_ℕ a b ≡ negsuc (b - suc a)
below a b h = ap (λ (t : Bool). cond t (negsuc (b - suc a)) (pos (a - b))) (lt-ltb a b h)

above : (a b : ℕ) → b ≤ a → sub_ℕ a b ≡ pos (a - b)
above a b h = ap (λ (t : Bool). cond t (negsuc (b - suc a)) (pos (a - b))) (le-ltb a b h)

-- under both outcomes of a test
pub by_order : (P : Type 0) (a b : ℕ) → (a < b → P) → (b ≤ a → P) → P
by_order P a b f g = go (ltb a b) refl
  where
    go : (t : Bool) → ltb a b ≡ t → P
    go true e = f (ltb-true a b e)
    go false e = g (ltb-false a b e)

same-absent : (a b c d : ℕ) → a + d ≡ c + b → sub_ℕ a b ≡ sub_ℕ c d
same-absent a b c d e =
    by_order (sub_ℕ a b ≡ sub_ℕ c d) a b
    (λ h. let k : b - suc a ≡ d - suc c = omega arith in below a b h ∙ ap negsuc k ∙ sym (below c d (omega arith)))
    (λ h. let k : a - b ≡ c - d = omega arith in above a b h ∙ ap pos k ∙ sym (above c d (omega arith)))

-- ---- the sum that is kept as n

pub sum_low : (n : ℕ) → n < 2 ^ 63 → sum_of n ≡ negsuc (2 ^ 63 - suc n)
unfolding sum_of
sum_low n h = below n (2 ^ 63) h

pub sum-high : (n : ℕ) → 2 ^ 63 ≤ n → sum_of n ≡ pos (n - 2 ^ 63)
unfolding sum_of
sum-high n h = above n (2 ^ 63) h

sum-up : (n m : ℕ) → sum_of n +ℤ pos m ≡ sum_of (n + m)
unfolding sum_of
sum-up n m =
    by_order (sum_of n +ℤ pos m ≡ sum_of (n + m)) n (2 ^ 63)
    (λ h. ap (λ (z : ℤ). z +ℤ pos m) (sum_low n h) ∙ same-absent m (suc (2 ^ 63 - suc n)) (n + m) (2 ^ 63) (omega arith))
    (λ h. let k : n - 2 ^ 63 + m ≡ n + m - 2 ^ 63 = omega arith in
    ap (λ (z : ℤ). z +ℤ pos m) (sum-high n h) ∙ ap pos k ∙ sym (sum-high (n + m) (omega arith)))

sum-down : (n m : ℕ) → m < n → sum_of n +ℤ negsuc m ≡ sum_of (n - suc m)
unfolding sum_of
sum-down n m l =
    by_order (sum_of n +ℤ negsuc m ≡ sum_of (n - suc m)) n (2 ^ 63)
    (λ h. let k : suc (2 ^ 63 - suc n + m) ≡ 2 ^ 63 - suc (n - suc m) = omega arith in
    ap (λ (z : ℤ). z +ℤ negsuc m) (sum_low n h) ∙ ap negsuc k ∙ sym (sum_low (n - suc m) (omega arith)))
    (λ h. ap (λ (z : ℤ). z +ℤ negsuc m) (sum-high n h) ∙ same-absent (n - 2 ^ 63) (suc m) (n - suc m) (2 ^ 63) (omega arith))

sum-under : (n m : ℕ) → n ≤ m → sum_of n +ℤ negsuc m ≡ negsuc (2 ^ 63 + (m - n))
sum-under n m l =
    by_order (sum_of n +ℤ negsuc m ≡ negsuc (2 ^ 63 + (m - n))) n (2 ^ 63)
    (λ h. let k : suc (2 ^ 63 - suc n + m) ≡ 2 ^ 63 + (m - n) = omega arith in
    ap (λ (z : ℤ). z +ℤ negsuc m) (sum_low n h) ∙ ap negsuc k)
    (λ h. let k : suc m - suc (n - 2 ^ 63) ≡ 2 ^ 63 + (m - n) = omega arith in
    ap (λ (z : ℤ). z +ℤ negsuc m) (sum-high n h) ∙ below (n - 2 ^ 63) (suc m) (omega arith) ∙ ap negsuc k)

-- an i64 holds it where a u64 holds n
sum-held : (n : ℕ) → n < 2 ^ 64 → holds (sum_of n) ≡ true
sum-held n l =
    by_order (holds (sum_of n) ≡ true) n (2 ^ 63)
    (λ h. ap holds (sum_low n h) ∙ lt-ltb (2 ^ 63 - suc n) (2 ^ 63) (omega arith))
    (λ h. ap holds (sum-high n h) ∙ lt-ltb (n - 2 ^ 63) (2 ^ 63) (omega arith))

sum-wide : (n : ℕ) → 2 ^ 64 ≤ n → holds (sum_of n) ≡ false
sum-wide n l = ap holds (sum-high n (omega arith)) ∙ le-ltb (n - 2 ^ 63) (2 ^ 63) (omega arith)

held : (z d y : ℤ) → z +ℤ d ≡ y → holds y ≡ true → held_sum z d ≡ some y
unfolding held_sum
held z d y e h = ap (λ (x : ℤ). cond (holds x) (some x) none) e ∙ ap (λ (t : Bool). cond t (some y) none) h

wide : (z d y : ℤ) → z +ℤ d ≡ y → holds y ≡ false → held_sum z d ≡ none
unfolding held_sum
wide z d y e h = ap (λ (x : ℤ). cond (holds x) (some x) none) e ∙ ap (λ (t : Bool). cond t (some y) none) h

-- what `plus` says of the sum, by its outcome
abbrev pub Kept : ℕ → ℤ → Option ℕ → Type 0
Kept n d none = held_sum (sum_of n) d ≡ none
Kept n d (some m) = (held_sum (sum_of n) d ≡ some (sum_of m)) × (m < 2 ^ 64)

pub kept : (n : ℕ) (d : ℤ) → n < 2 ^ 64 → Kept n d (plus n d)
unfolding plus
kept n (pos m) l =
    cond-by (Kept n (pos m)) (ltb (n + m) (2 ^ 64))
    (λ t. let h = ltb-true (n + m) (2 ^ 64) t in (held (sum_of n) (pos m) (sum_of (n + m)) (sum-up n m) (sum-held (n + m) h), h))
    (λ t. wide (sum_of n) (pos m) (sum_of (n + m)) (sum-up n m) (sum-wide (n + m) (ltb-false (n + m) (2 ^ 64) t)))
kept n (negsuc m) l =
    cond-by (Kept n (negsuc m)) (ltb m n)
    (λ t. let k : n - suc m < 2 ^ 64 = omega arith in
    (held (sum_of n) (negsuc m) (sum_of (n - suc m)) (sum-down n m (ltb-true m n t)) (sum-held (n - suc m) k), k))
    (λ t. wide (sum_of n) (negsuc m) (negsuc (2 ^ 63 + (m - n))) (sum-under n m (ltb-false m n t)) (le-ltb (2 ^ 63 + (m - n)) (2 ^ 63) (omega arith)))

-- ---- one difference over and over

same_test : (a b c d : ℕ) → (a ≤ b → c ≤ d) → (c ≤ d → a ≤ b) → leb a b ≡ leb c d
same_test a b c d f g =
    by_order (leb a b ≡ leb c d) b a
    (λ h. lt-leb a b h ∙ sym (lt-leb c d (by_order (d < c) d c (λ k. k) (λ k. absurd (omega (arith, g k))))))
    (λ h. le-leb a b h ∙ sym (le-leb c d (f h)))

-- c + 1 additions are one and then c, or leave where the first one leaves
abbrev pub Times : ℕ → ℤ → ℕ → Option ℕ → Type 0
Times n d c none = plus_times n d (suc c) ≡ none
Times n d c (some m) = plus_times n d (suc c) ≡ plus_times m d c

pub times : (n : ℕ) (d : ℤ) (c : ℕ) → Times n d c (plus n d)
unfolding plus plus_times
times n (pos m) c =
    let s = suc-mul c m in
    cond-by (Times n (pos m) c) (ltb (n + m) (2 ^ 64))
    (λ t. let k : n + suc c * m ≡ n + m + c * m = omega arith in ap (λ (x : ℕ). cond (ltb x (2 ^ 64)) (some x) none) k)
    (λ t. ap (λ (u : Bool). cond u (some (n + suc c * m)) none) (le-ltb (n + suc c * m) (2 ^ 64) (omega (arith, ltb-false (n + m) (2 ^ 64) t))))
times n (negsuc m) c =
    let s = suc-mul c (suc m) in
    cond-by (Times n (negsuc m) c) (ltb m n)
    (λ t. let l = ltb-true m n t in
    let k : n - suc c * suc m ≡ n - suc m - c * suc m = omega arith in
    ap (λ (x : ℕ). cond (leb (suc c * suc m) n) (some x) none) k
    ∙ ap (λ (u : Bool). cond u (some (n - suc m - c * suc m)) none)
    (same_test (suc c * suc m) n (c * suc m) (n - suc m) (λ h. omega arith) (λ h. omega arith)))
    (λ t. ap (λ (u : Bool). cond u (some (n - suc c * suc m)) none) (lt-leb (suc c * suc m) n (omega (arith, ltb-false m n t))))

pub times_none : (n : ℕ) (d : ℤ) → n < 2 ^ 64 → plus_times n d 0 ≡ some n
unfolding plus_times
times_none n (pos m) l =
    let k : n + 0 * m ≡ n = omega (arith, zero-mul m) in
    ap (λ (x : ℕ). cond (ltb x (2 ^ 64)) (some x) none) k ∙ ap (λ (u : Bool). cond u (some n) none) (lt-ltb n (2 ^ 64) l)
times_none n (negsuc m) l =
    let z = zero-mul (suc m) in
    let k : n - 0 * suc m ≡ n = omega arith in
    ap (λ (u : Bool). cond u (some (n - 0 * suc m)) none) (le-leb (0 * suc m) n (omega arith)) ∙ ap some k

-- ---- by the branches of the code, over a difference's magnitude

-- x < 0 held, or did not: x by its magnitude
pub neg_is : (x : ℤ) (m : ℕ) → SFits w64 x → lt_z (to_z w64 (of_z w64 x)) (pos 0) ≡ true → m ≡ mag (to_z w64 (of_z w64 x)) → x ≡ negsuc m
neg_is x m f t e = is-neg x f t ∙ ap negsuc (sym (e ∙ ap mag (same x f)))

pub pos-is : (x : ℤ) (m : ℕ) → SFits w64 x → lt_z (to_z w64 (of_z w64 x)) (pos 0) ≡ false → m ≡ mag (to_z w64 (of_z w64 x)) → x ≡ pos m
pos-is x m f t e = is_pos x f t ∙ ap pos (sym (e ∙ ap mag (same x f)))

module _ (n m : ℕ) where
  pub plus-fall : m < n → plus n (negsuc m) ≡ some (n - m - 1)
  unfolding plus
  plus-fall h = let k : n - suc m ≡ n - m - 1 = omega arith in ap (λ (t : Bool). cond t (some (n - suc m)) none) (lt-ltb m n h) ∙ ap some k

  pub plus-under : n ≤ m → plus n (negsuc m) ≡ none
  unfolding plus
  plus-under h = ap (λ (t : Bool). cond t (some (n - suc m)) none) (le-ltb m n h)

  pub plus-rise : n + m < 2 ^ 64 → plus n (pos m) ≡ some (n + m)
  unfolding plus
  plus-rise h = ap (λ (t : Bool). cond t (some (n + m)) none) (lt-ltb (n + m) (2 ^ 64) h)

  pub plus-over : 2 ^ 64 ≤ n + m → plus n (pos m) ≡ none
  unfolding plus
  plus-over h = ap (λ (t : Bool). cond t (some (n + m)) none) (le-ltb (n + m) (2 ^ 64) h)

  module _ (c : ℕ) where
    fall : c * suc m ≤ n → plus_times n (negsuc m) c ≡ some (n - c * suc m)
    unfolding plus_times
    fall h = ap (λ (t : Bool). cond t (some (n - c * suc m)) none) (le-leb (c * suc m) n h)

    under : n < c * suc m → plus_times n (negsuc m) c ≡ none
    unfolding plus_times
    under h = ap (λ (t : Bool). cond t (some (n - c * suc m)) none) (lt-leb (c * suc m) n h)

    pub times-rise : n + c * m < 2 ^ 64 → plus_times n (pos m) c ≡ some (n + c * m)
    unfolding plus_times
    times-rise h = ap (λ (t : Bool). cond t (some (n + c * m)) none) (lt-ltb (n + c * m) (2 ^ 64) h)

    pub times-over : 2 ^ 64 ≤ n + c * m → plus_times n (pos m) c ≡ none
    unfolding plus_times
    times-over h = ap (λ (t : Bool). cond t (some (n + c * m)) none) (le-ltb (n + c * m) (2 ^ 64) h)

    pub times-fall : c * (m + 1) ≤ n → plus_times n (negsuc m) c ≡ some (n - c * (m + 1))
    times-fall h = let e = add-one m in fall (rw e at h) ∙ ap (λ (k : ℕ). some (n - c * k)) (sym e)

    pub times-under : n < c * (m + 1) → plus_times n (negsuc m) c ≡ none
    times-under h = under (rw (add-one m) at h)

pub times-still : (n c : ℕ) → n < 2 ^ 64 → plus_times n (pos 0) c ≡ some n
times-still n c h = let e : n + c * 0 ≡ n = omega (arith, mul-zero c) in times-rise n 0 c (omega arith) ∙ ap some e

-- c times k fits into n, or does not: what the division says
pub within : (c k n : ℕ) → 0 < k → c ≤ n / k → c * k ≤ n
within c k n p h = (le-div_iff_mul-le p).0 h

pub beyond : (c k n : ℕ) → 0 < k → n / k < c → n < c * k
beyond c k n p h = (div-lt_iff_lt-mul p).0 h
