-- The loops over a number's bytes. After n bytes worth low, where the next counts scale times, the digits x are `onto` the rest's digits. That
-- holds behind the first byte (`begun`), a turn keeps it (`next`), and each way out reads the result off it (`final`, `tenth`, `cut`); `room` says that nothing
-- wraps. Assumes nothing.
use mathlib.Core.Path.{◌≡◌, refl, sym, ◌∙◌}
use mathlib.Core.List.{List}
use Prim.Native.Nat.{ℕ, suc, ◌+◌, ◌*◌, ◌-◌, ◌^◌, ◌≤◌, ◌<◌}
use native.Mathlib.Numerals.{add-one}
use native.Mathlib.Nat.{mul-le-mul_left, pow-le-pow_right, pow-suc}
use native.Mathlib.Omega.{arith}
use lib.Dec.{lit<}
use lib.ListN.{length, get_or, drop, drop_of_length-le}
use lib.Seq.{drop-cons}
use borrow.Author.Tests.{lt-ltb, le-ltb, eq-eqb, ne_eqb}
use Rattle.leb128.specs.Digits.{Digits, whole, broken, more, digits}

-- the digits c behind n bytes
abbrev pub onto : ℕ → ℕ → ℕ → Digits → Digits
onto low scale n (whole l k p b m) = whole (low + scale * l) (scale * k) p b (n + m)
onto low scale n (broken r) = broken r

whole-eq : {a a' b b' e e' : ℕ} (p q : ℕ) → a ≡ a' → b ≡ b' → e ≡ e' → whole a b p q e ≡ whole a' b' p q e'
whole-eq p q x y z = cc

pub onto-none : (c : Digits) → c ≡ onto 0 1 0 c
onto-none (whole l k p b m) = whole-eq p b (omega arith) (omega arith) (omega arith)
onto-none (broken r) = refl

onto-last : (low scale n p b : ℕ) → onto low scale n (whole 0 1 p b 1) ≡ whole low scale p b (n + 1)
onto-last low scale n p b = whole-eq p b (omega arith) (omega arith) refl

onto-more : (low scale n d : ℕ) (c : Digits) → onto low scale n (more d c) ≡ onto (low + scale * d) (scale * 128) (n + 1) c
onto-more low scale n d (whole l k p b m) = whole-eq p b (omega arith) (omega arith) (omega arith)
onto-more low scale n d (broken r) = refl

module _ (s : List ℕ) (x : Digits) (low scale n p i : ℕ) (inv : x ≡ onto low scale n (digits n p (drop i s))) where
  pub final : i < length s → get_or s i 0 < 128 → whole low scale p (get_or s i 0) (n + 1) ≡ x
  final h b = sym (inv ∙ rw (drop-cons s i 0 h, lt-ltb _ _ b) (onto-last low scale n p (get_or s i 0)))

  pub tenth : i < length s → 128 ≤ get_or s i 0 → n ≡ 9 → broken 2 ≡ x
  tenth h b e = sym (inv ∙ rw (drop-cons s i 0 h, le-ltb _ _ b, eq-eqb _ _ e))

  pub next : {d : ℕ} → i < length s → 128 ≤ get_or s i 0 → (n ≡ 9 → ⊥) → d ≡ get_or s i 0 - 128
      → x ≡ onto (low + scale * d) (scale * 128) (n + 1) (digits (n + 1) (get_or s i 0) (drop (i + 1) s))
  next h b e f =
      inv ∙ rw (add-one i, f, drop-cons s i 0 h, le-ltb _ _ b, ne_eqb _ _ e)
      (onto-more low scale n (get_or s i 0 - 128) (digits (n + 1) (get_or s i 0) (drop (suc i) s)))

  pub cut : length s ≤ i → (n ≡ 0 → ⊥) → broken 1 ≡ x
  cut h e = sym (inv ∙ rw (drop_of_length-le s h, ne_eqb _ _ e))

-- behind the first byte, where more follow
pub begun : (s : List ℕ) (at d first : ℕ) → at < length s → first ≡ get_or s at 0 → 128 ≤ first → d ≡ first - 128
    → digits 0 0 (drop at s) ≡ onto d 128 1 (digits 1 first (drop (at + 1) s))
begun s at d first h f b e =
    let z : 0 + 1 * d ≡ d = omega arith in
    let g : d ≡ get_or s at 0 - 128 = omega (arith, f, e) in
    rw (z, ← f) at (next s (digits 0 0 (drop at s)) 0 1 0 0 at (onto-none _) h (omega (arith, f)) (λ k. omega arith) g)

-- before the tenth byte, n bytes worth low and one more that counts d times: nothing wraps
pub record Room (low scale n d : ℕ) : Type 0 where
  pub wide : scale * 128 ≤ 2 ^ 63
  pub below : low + scale * d < scale * 128
  pub power : scale * 128 ≡ 128 ^ (n + 1)

pub room : (low scale n d : ℕ) → n < 9 → scale ≡ 128 ^ n → low < scale → d < 128 → Room low scale n d
room low scale n d h e l s =
    record {
      wide = omega (arith, pow-le-pow_right {n = 128} (lit< tt) {i = n} {j = 8} (omega arith));
      below = omega (arith, mul-le-mul_left {m = d} {n = 127} scale (omega arith));
      power = rw (add-one n, pow-suc, e);
    }
