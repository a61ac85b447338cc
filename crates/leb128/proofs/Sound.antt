-- What is true of the digits of any bytes, and that a number's value fits. Assumes nothing.
use mathlib.Core.Path.{◌≡◌, refl, sym, subst, ap, ◌∙◌}
use mathlib.Core.Logic.{◌⊎◌, inl, inr, ⊎_elim}
use mathlib.Core.Bool.{Bool, true, false, cond}
use mathlib.Core.List.{List, [], ◌∷◌}
use Prim.Native.Nat.{ℕ, suc, ◌+◌, ◌*◌, ◌-◌, ◌^◌, ◌%◌, ◌≤◌, ◌<◌, min}
use native.Mathlib.Numerals.{add-one}
use native.Mathlib.Nat.{mul-le-mul_left, pow-le-pow_right, pow-suc}
use native.Mathlib.Decide.{dec_lt}
use native.Mathlib.Omega.{arith}
use lib.Dec.{lit<, ltb, eqb}
use lib.ListN.{length, get_or, drop, length-drop}
use lib.Seq.{get_or-drop}
use borrow.Author.Tests.{lt-ltb, le-ltb, eq-eqb, ltb-true, ltb-false, eqb-true, eqb-false, not-false}
use Rattle.leb128.specs.Digits.{Digits, whole, broken, more, digits}
use Rattle.leb128.specs.Sound.{Sound}
use Rattle.leb128.specs.Read.{u_large, s_large, fill}

-- of the digits of len bytes that stand behind n others
abbrev pub SoundDigits : ℕ → ℕ → Digits → Type 0
SoundDigits n len (whole low scale prev last count) = Sound low scale last count × (n + count ≤ 10) × (count ≤ len)
SoundDigits n len (broken r) = Unit {0}

sound_more : (n len d : ℕ) (c : Digits) → d < 128 → SoundDigits (n + 1) len c → SoundDigits n (suc len) (more d c)
sound_more n len d (whole low scale prev last count) h s = (
  record {
    below = omega arith;
    power = rw (add-one count, pow-suc) (omega (arith, s.0.power));
    final = s.0.final;
    some = omega arith;
    ten = omega arith;
  },
  omega arith,
  omega arith,
)
sound_more n len d (broken r) h s = tt

pub sound : (n p : ℕ) (bs : List ℕ) → n ≤ 9 → ((i : ℕ) → get_or bs i 0 < 256) → SoundDigits n (length bs) (digits n p bs)
sound n p [] h B = tt
sound n p (b ∷ bs) h B = first (ltb b 128) refl (λ (k : n < 9). sound (n + 1) b bs (omega arith) (λ i. B (suc i)))
  where
    rest : (t : Bool) → eqb n 9 ≡ t → (n < 9 → SoundDigits (n + 1) (length bs) (digits (n + 1) b bs))
        → SoundDigits n (suc (length bs)) (cond t (broken 2) (more (b - 128) (digits (n + 1) b bs)))
    rest true e ih = tt
    rest false e ih = sound_more n (length bs) (b - 128) (digits (n + 1) b bs) (omega (arith, B 0)) (ih (omega (arith, eqb-false n 9 e)))

    first : (t : Bool) → ltb b 128 ≡ t → (n < 9 → SoundDigits (n + 1) (length bs) (digits (n + 1) b bs))
        → SoundDigits n (suc (length bs)) (cond t (whole 0 1 p b 1) (cond (eqb n 9) (broken 2) (more (b - 128) (digits (n + 1) b bs))))
    first true e ih = (
      record { below = omega arith; power = refl; final = ltb-true b 128 e; some = omega arith; ten = omega arith },
      omega arith,
      omega arith,
    )
    first false e ih = rest (eqb n 9) refl ih

-- of the digits at a position of s
abbrev pub SoundAt : List ℕ → ℕ → Digits → Type 0
SoundAt s at (whole low scale prev last count) = Sound low scale last count × (at + count ≤ length s)
SoundAt s at (broken r) = Unit {0}

sound-to : (s : List ℕ) (at : ℕ) (c : Digits) → SoundDigits 0 (length (drop at s)) c → SoundAt s at c
sound-to s at (whole low scale prev last count) h = (h.0, omega (arith, length-drop at s, h.0.some))
sound-to s at (broken r) h = tt

pub sound-at : (s : List ℕ) (at : ℕ) → ((i : ℕ) → get_or s i 0 < 256) → SoundAt s at (digits 0 0 (drop at s))
sound-at s at B = sound-to s at (digits 0 0 (drop at s)) (sound 0 0 (drop at s) (omega arith) (λ i. rw (get_or-drop at s i 0) (B (at + i))))

-- the value of an unsigned number that is not too large
pub u-fits : (low scale last count : ℕ) → Sound low scale last count → u_large last count ≡ false → low + scale * last < 2 ^ 64
u-fits low scale last count s l = elim (dec_lt count 10) [
  | yes h ↦ omega (arith, pow-le-pow_right {n = 128} (lit< tt) {i = count} {j = 9} (omega arith), mul-le-mul_left {m = last} {n = 127} scale (omega arith))
  | no h ↦ omega (arith, ten (omega arith), mul-le-mul_left {m = last} {n = 1} scale (ltb-false 1 last (rw (eq-eqb count 10 (omega arith)) at l)))
]
  where
    ten : count ≡ 10 → scale * 128 ≡ 128 ^ 10
    ten e = rw e at s.power

-- where the digits at a position of s are whole
module _ (s : List ℕ) (at : ℕ) (B : (i : ℕ) → get_or s i 0 < 256) (low scale prev last count : ℕ)
    (e : whole low scale prev last count ≡ digits 0 0 (drop at s)) where
  pub whole-sound : Sound low scale last count × (at + count ≤ length s)
  whole-sound = subst (SoundAt s at) (sym e) (sound-at s at B)

  pub whole-place : min at (length s) ≡ at
  whole-place = omega (arith, whole-sound.1, whole-sound.0.some)

-- the value of a signed number that is not too large
pub fill-low : (b : ℕ) → b % 128 < 64 → fill b ≡ 0
fill-low b h = rw (lt-ltb (b % 128) 64 h)

pub fill-high : (b : ℕ) → 64 ≤ b % 128 → fill b ≡ 127
fill-high b h = rw (le-ltb (b % 128) 64 h)

module _ (low scale last count : ℕ) (s : Sound low scale last count) (l : s_large last count ≡ false) where
  -- below the tenth byte scale is small; at the tenth the final byte only repeats the sign
  scales : (scale ≤ 2 ^ 56) ⊎ ((scale ≡ 2 ^ 63) × (last ≡ fill last))
  scales = elim (dec_lt count 10) [
    | yes h ↦ inl (omega (arith, s.power, pow-le-pow_right {n = 128} (lit< tt) {i = count} {j = 9} (omega arith)))
    | no h ↦ inr (omega (arith, ten (omega (arith, s.ten))), eqb-true last (fill last) (not-false _ (rw (eq-eqb count 10 (omega (arith, s.ten))) at l)))
  ]
    where
      ten : count ≡ 10 → scale * 128 ≡ 128 ^ 10
      ten e = rw e at s.power

  pub s-low : last < 64 → low + scale * last < 2 ^ 63
  s-low h = ⊎_elim
      (λ (k : scale ≤ 2 ^ 56). omega (arith, s.below, mul-le-mul_left {m = last} {n = 63} scale (omega arith)))
      (λ (k : (scale ≡ 2 ^ 63) × (last ≡ fill last)). let z : last ≡ 0 = k.1 ∙ fill-low last (omega arith) in rw z (omega (arith, s.below)))
      scales

  pub s-high : 64 ≤ last → scale - 1 - low + scale * (127 - last) < 2 ^ 63
  s-high h = ⊎_elim
      (λ (k : scale ≤ 2 ^ 56). omega (arith, s.below, mul-le-mul_left {m = 127 - last} {n = 63} scale (omega arith)))
      (λ (k : (scale ≡ 2 ^ 63) × (last ≡ fill last)). let z : last ≡ 127 = k.1 ∙ fill-high last (omega (arith, s.final)) in rw z
      (omega (arith, s.below)))
      scales

  pub s-flip : scale - 1 - low + scale * (127 - last) ≡ scale * 128 - suc (low + scale * last)
  s-flip =
      let e : scale * (last + (127 - last)) ≡ scale * 127 = ap (λ (k : ℕ). scale * k) (omega (arith, s.final)) in
      omega (arith, s.below)
