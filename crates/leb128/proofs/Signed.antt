-- The ways out of the loop over a signed number of two to nine bytes, whose digits end with the byte b at i; and those of ten bytes. Assumes nothing.
use Prim.Native.Nat.{ℕ, suc, ◌+◌, ◌*◌, ◌-◌, ◌%◌, ◌≤◌, ◌<◌, min}
use mathlib.Core.Path.{◌≡◌}
use mathlib.Core.List.{List}
use native.Mathlib.Decide.{dec_lt}
use native.Mathlib.Omega.{arith}
use lib.IntN.{ℤ, pos, negsuc}
use lib.ListN.{length, drop}
use borrow.Author.Tests.{lt-ltb, le-ltb, eq-eqb, ne_eqb}
use Rattle.leb128.specs.Got.{got, bad}
use Rattle.leb128.specs.Digits.{whole, digits}
use Rattle.leb128.specs.Read.{fill, signed, i64_at}

module _ (s : List ℕ) (at low scale prev b n : ℕ) (e : whole low scale prev b (n + 1) ≡ digits 0 0 (drop at s)) (h : at < length s) (k : 0 < n) (t : n ≡ 9 → ⊥) where
  start : min at (length s) ≡ at
  start = omega arith

  pub overlong : b ≡ fill prev → bad 3 at ≡ i64_at s at
  unfolding i64_at
  overlong f = rw (← e, start, ne_eqb (n + 1) 10 (λ z. t (omega arith)), lt-ltb 1 (n + 1) (omega arith), eq-eqb b (fill prev) f)

  module _ (f : b ≡ fill prev → ⊥) (i : ℕ) (p : i ≡ at + n) where
    pub not_negative : {z : ℤ} → b < 64 → z ≡ pos (low + scale * b) → got z (i + 1) ≡ i64_at s at
    unfolding i64_at
    not_negative l q =
        let j : i + 1 ≡ at + (n + 1) = omega arith in
        rw (← e, start, ne_eqb (n + 1) 10 (λ z. t (omega arith)), lt-ltb 1 (n + 1) (omega arith), ne_eqb b (fill prev) f, lt-ltb b 64 l, q, j)

    pub negative : {z : ℤ} → 64 ≤ b → z ≡ negsuc (scale * 128 - suc (low + scale * b)) → got z (i + 1) ≡ i64_at s at
    unfolding i64_at
    negative l q =
        let j : i + 1 ≡ at + (n + 1) = omega arith in
        rw (← e, start, ne_eqb (n + 1) 10 (λ z. t (omega arith)), lt-ltb 1 (n + 1) (omega arith), ne_eqb b (fill prev) f, le-ltb b 64 l, q, j)

-- a byte that only repeats its own bit 6
pub repeats : (last : ℕ) → last ≡ fill last → (last ≡ 0 → ⊥) → last ≡ 127
repeats last e z = elim (dec_lt (last % 128) 64) [
  | yes k ↦ absurd (z (rw (lt-ltb (last % 128) 64 k) at e))
  | no k ↦ let l : 64 ≤ last % 128 = omega arith in rw (le-ltb (last % 128) 64 l) at e
]

module _ (at low scale prev last : ℕ) where
  pub tenth-large : (last ≡ fill last → ⊥) → bad 2 at ≡ signed at at (whole low scale prev last 10)
  tenth-large f = rw (ne_eqb last (fill last) f)

  module _ (f : last ≡ fill last) where
    pub tenth-overlong : last ≡ fill prev → bad 3 at ≡ signed at at (whole low scale prev last 10)
    tenth-overlong g = rw (eq-eqb last (fill last) f, eq-eqb last (fill prev) g)

    module _ (g : last ≡ fill prev → ⊥) where
      pub tenth-up : {z : ℤ} → last ≡ 0 → z ≡ pos low → got z (at + 10) ≡ signed at at (whole low scale prev last 10)
      tenth-up e q =
          let v : low ≡ low + scale * last = rw e (omega arith) in
          rw (eq-eqb last (fill last) f, ne_eqb last (fill prev) g, lt-ltb last 64 (omega arith), q, ← v)

      pub tenth-down : {z : ℤ} → last ≡ 127 → z ≡ negsuc (scale - 1 - low) → got z (at + 10) ≡ signed at at (whole low scale prev last 10)
      tenth-down e q =
          let v : scale - 1 - low ≡ scale * 128 - suc (low + scale * last) = rw e (omega arith) in
          rw (eq-eqb last (fill last) f, ne_eqb last (fill prev) g, le-ltb last 64 (omega arith), q, ← v)
