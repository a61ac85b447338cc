-- Does an i64 hold a sum: by the signs and magnitudes of its two numbers. Assumes nothing.
use Prim.Native.Nat.{ℕ, suc, ◌+◌, ◌-◌, ◌^◌, ◌≤◌, ◌<◌}
use mathlib.Core.Path.{◌≡◌, sym, ◌∙◌, ap}
use mathlib.Core.Option.{none, some}
use mathlib.Core.Bool.{Bool, true, false, cond}
use native.Mathlib.Omega.{arith}
use lib.Dec.{ltb}
use lib.IntN.{ℤ, pos, negsuc, ◌+ℤ◌, sub_ℕ}
use lib.Signed.{mag}
use borrow.Author.Tests.{ltb-true, lt-ltb}
use mir.Syntax.{w64}
use mir.Val.{SFits, to_z, of_z}
use Rattle.leb128.proofs.Twos.{same}
use Rattle.delta_decoder.specs.Difference.{holds}
use Rattle.delta_decoder.specs.Sums.{held_sum}

sub-half : (m n : ℕ) → m < 2 ^ 63 → n ≤ 2 ^ 63 → mag (sub_ℕ m n) < 2 ^ 63
sub-half m n f g = go (ltb m n)
  where
    go : (t : Bool) → mag (cond t (negsuc (n - suc m)) (pos (m - n))) < 2 ^ 63
    go true = omega arith
    go false = omega arith

-- two numbers of two signs: their sum is no further from 0 than one of them
module _ (x y : ℤ) (f : mag x < 2 ^ 63) (g : mag y < 2 ^ 63) where
  pub held-neg-pos : x ≡ negsuc (mag x) → y ≡ pos (mag y) → true ≡ holds (x +ℤ y)
  held-neg-pos ex ey =
      let e : x +ℤ y ≡ negsuc (mag x) +ℤ pos (mag y) = cc in
      sym (ap holds e ∙ lt-ltb (mag (sub_ℕ (mag y) (suc (mag x)))) (2 ^ 63) (sub-half (mag y) (suc (mag x)) g (omega arith)))

  pub held-pos-neg : x ≡ pos (mag x) → y ≡ negsuc (mag y) → true ≡ holds (x +ℤ y)
  held-pos-neg ex ey =
      let e : x +ℤ y ≡ pos (mag x) +ℤ negsuc (mag y) = cc in
      sym (ap holds e ∙ lt-ltb (mag (sub_ℕ (mag x) (suc (mag y)))) (2 ^ 63) (sub-half (mag x) (suc (mag y)) f (omega arith)))

-- of one sign: it is as far as their magnitudes together
module _ (x y : ℤ) {a b : ℕ} (ea : a ≡ mag x) (eb : b ≡ mag y) where
  pub held-neg-neg : x ≡ negsuc (mag x) → y ≡ negsuc (mag y) → ltb (a + b + 1) (2 ^ 63) ≡ holds (x +ℤ y)
  held-neg-neg ex ey =
      let e : x +ℤ y ≡ negsuc (mag x) +ℤ negsuc (mag y) = cc in
      let m : a + b + 1 ≡ mag (x +ℤ y) = omega (arith, ap mag e) in
      ap (λ (n : ℕ). ltb n (2 ^ 63)) m

  pub held-pos-pos : x ≡ pos (mag x) → y ≡ pos (mag y) → ltb (a + b) (2 ^ 63) ≡ holds (x +ℤ y)
  held-pos-pos ex ey =
      let e : x +ℤ y ≡ pos (mag x) +ℤ pos (mag y) = cc in
      let m : a + b ≡ mag (x +ℤ y) = omega (arith, ap mag e) in
      ap (λ (n : ℕ). ltb n (2 ^ 63)) m

-- the sum of z and d by that test, where both are passed as their bits
module _ (z d : ℤ) (f : SFits w64 z) (g : SFits w64 d) where
  abbrev passed : ℤ
  passed = to_z w64 (of_z w64 z) +ℤ to_z w64 (of_z w64 d)

  passed_is : passed ≡ z +ℤ d
  passed_is = rw (same z f, same d g)

  pub held_fits : holds passed ≡ true → SFits w64 passed
  held_fits h = record { sfits = ltb-true (mag passed) (2 ^ 63) h }

  pub sum-held : holds passed ≡ true → some (to_z w64 (of_z w64 passed)) ≡ held_sum z d
  unfolding held_sum
  sum-held h =
      ap some (same passed (held_fits h)) ∙ sym (ap (λ (t : Bool). cond t (some passed) none) h)
      ∙ ap (λ (x : ℤ). cond (holds x) (some x) none) passed_is

  pub sum-wide : holds passed ≡ false → none ≡ held_sum z d
  unfolding held_sum
  sum-wide h = sym (ap (λ (t : Bool). cond t (some passed) none) h) ∙ ap (λ (x : ℤ). cond (holds x) (some x) none) passed_is
