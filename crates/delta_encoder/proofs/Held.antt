-- Does an i64 hold a difference: by the signs and magnitudes of its two numbers. Assumes nothing.
use Prim.Native.Nat.{ℕ, zero, suc, ◌+◌, ◌-◌, ◌^◌, ◌≤◌, ◌<◌}
use mathlib.Core.Path.{◌≡◌, refl, sym, ◌∙◌, ap}
use mathlib.Core.Bool.{Bool, true, false, cond}
use native.Mathlib.Omega.{arith}
use lib.Dec.{ltb}
use lib.IntN.{ℤ, pos, negsuc, ◌-ℤ◌, sub_ℕ}
use lib.Signed.{mag}
use borrow.Author.Tests.{lt-ltb}
use Rattle.delta_decoder.specs.Difference.{holds}

sub-half : (m n : ℕ) → m ≤ 2 ^ 63 → 0 < n → n ≤ 2 ^ 63 → mag (sub_ℕ m n) < 2 ^ 63
sub-half m n f h g = go (ltb m n)
  where
    go : (t : Bool) → mag (cond t (negsuc (n - suc m)) (pos (m - n))) < 2 ^ 63
    go true = omega arith
    go false = omega arith

pos-half : (a b : ℕ) → a < 2 ^ 63 → b < 2 ^ 63 → mag (pos a -ℤ pos b) < 2 ^ 63
pos-half a zero f g = omega arith
pos-half a (suc b) f g = sub-half a (suc b) (omega arith) (omega arith) (omega arith)

neg-mag : (a b : ℕ) → mag (negsuc a -ℤ pos b) ≡ a + b
neg-mag a zero = rw (lt-ltb 0 (suc a) (omega arith)) (omega arith)
neg-mag a (suc b) = omega arith

-- numbers of one sign are no more than 2^63 apart; those of two signs are as far apart as their magnitudes together
module _ (x y : ℤ) (f : mag x < 2 ^ 63) (g : mag y < 2 ^ 63) where
  pub held-neg-neg : x ≡ negsuc (mag x) → y ≡ negsuc (mag y) → true ≡ holds (x -ℤ y)
  held-neg-neg ex ey =
      let e : x -ℤ y ≡ negsuc (mag x) -ℤ negsuc (mag y) = cc in
      sym (ap holds e ∙ lt-ltb (mag (sub_ℕ (suc (mag y)) (suc (mag x)))) (2 ^ 63) (sub-half (suc (mag y)) (suc (mag x)) (omega arith) (omega arith) (omega arith)))

  pub held-pos-pos : x ≡ pos (mag x) → y ≡ pos (mag y) → true ≡ holds (x -ℤ y)
  held-pos-pos ex ey =
      let e : x -ℤ y ≡ pos (mag x) -ℤ pos (mag y) = cc in
      sym (ap holds e ∙ lt-ltb (mag (pos (mag x) -ℤ pos (mag y))) (2 ^ 63) (pos-half (mag x) (mag y) f g))

module _ (x y : ℤ) {a b : ℕ} (ea : a ≡ mag x) (eb : b ≡ mag y) where
  pub held-neg-pos : x ≡ negsuc (mag x) → y ≡ pos (mag y) → ltb (a + b) (2 ^ 63) ≡ holds (x -ℤ y)
  held-neg-pos ex ey =
      let e : x -ℤ y ≡ negsuc (mag x) -ℤ pos (mag y) = cc in
      let m : a + b ≡ mag (x -ℤ y) = omega (arith, ap mag e, neg-mag (mag x) (mag y)) in
      ap (λ (n : ℕ). ltb n (2 ^ 63)) m

  pub held-pos-neg : x ≡ pos (mag x) → y ≡ negsuc (mag y) → ltb (a + b + 1) (2 ^ 63) ≡ holds (x -ℤ y)
  held-pos-neg ex ey =
      let e : x -ℤ y ≡ pos (mag x) -ℤ negsuc (mag y) = cc in
      let m : a + b + 1 ≡ mag (x -ℤ y) = omega (arith, ap mag e) in
      ap (λ (n : ℕ). ltb n (2 ^ 63)) m

-- numbers near to 0 are near to each other
pub held-near : (x y : ℤ) → mag x < 2 ^ 62 → mag y < 2 ^ 62 → holds (x -ℤ y) ≡ true
held-near (pos a) (pos b) f g = sym (held-pos-pos (pos a) (pos b) (omega arith) (omega arith) refl refl)
held-near (pos a) (negsuc b) f g = sym (held-pos-neg (pos a) (negsuc b) refl refl refl refl) ∙ lt-ltb (a + b + 1) (2 ^ 63) (omega arith)
held-near (negsuc a) (pos b) f g = sym (held-neg-pos (negsuc a) (pos b) refl refl refl refl) ∙ lt-ltb (a + b) (2 ^ 63) (omega arith)
held-near (negsuc a) (negsuc b) f g = sym (held-neg-neg (negsuc a) (negsuc b) (omega arith) (omega arith) refl refl)
