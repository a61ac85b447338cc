-- What is accepted is what would be written, and within its type: once for the unsigned and both signs of the signed numbers.
-- Assumes nothing.
use mathlib.Core.Path.{◌≡◌, refl, ap}
use mathlib.Core.List.{List, [], ◌∷◌}
use mathlib.Core.Bool.{Bool, true, false, cond}
use Prim.Native.Nat.{ℕ, suc, ◌+◌, ◌*◌, ◌-◌, ◌/◌, ◌%◌, ◌^◌, ◌≤◌, ◌<◌}
use native.Mathlib.Numerals.{add-one}
use native.Mathlib.Nat.{mul-le-mul_left}
use native.Mathlib.Decide.{dec_lt}
use native.Mathlib.Omega.{arith}
use lib.Dec.{ltb, eqb}
use lib.ListN.{length, get_or, take}
use borrow.Author.Tests.{lt-ltb, ltb-true, ltb-false, eqb-false}
use Rattle.leb128.specs.Got.{got, bad}
use Rattle.leb128.specs.Digits.{Digits, whole, broken, more, digits}
use Rattle.leb128.specs.Write.{group, encoded, u64_bytes, i64_bytes}
use Rattle.leb128.specs.Read.{u_large, u_long, unsigned, fill, s_large, s_long, signed}
use lib.IntN.{ℤ, pos, negsuc}
use lib.Signed.{mag}
use Rattle.leb128.proofs.Sound.{SoundDigits, sound, u-fits, s-low, s-high, s-flip, fill-low, fill-high}
use Rattle.leb128.proofs.Encoded.{encoded-last, encoded-more}
use Rattle.leb128.proofs.Back.{Val, u-test, s-test, group-group}

-- of the digits of the bytes bs that stand behind the byte p
record Canon (test : ℕ → ℕ → Bool) (limit : ℕ) (neg : Bool) (p : ℕ) (bs : List ℕ) (v prev last count : ℕ) : Type 0 where
  same : take count bs ≡ encoded limit neg v
  many : 1 < count → limit ≤ v
  one : count ≡ 1 → (prev ≡ p) × (v ≡ group neg last)

abbrev CanonDigits : (ℕ → ℕ → Bool) → ℕ → Bool → ℕ → List ℕ → Digits → Type 0
CanonDigits test limit neg p bs (broken r) = Unit {0}
CanonDigits test limit neg p bs (whole low scale prev last count) =
    (0 < count) × ((v : ℕ) → v < 2 ^ 64 → last < 128 → group neg last < limit → (1 < count → test prev last ≡ false) → Val neg (low + scale * last) scale v
    → Canon test limit neg p bs v prev last count)

val-rest : (neg : Bool) (d low scale last v : ℕ) → d < 128 → Val neg (d + 128 * low + 128 * scale * last) (128 * scale) v
    → Val neg (low + scale * last) scale (v / 128) × (v % 128 ≡ group neg d)
val-rest false d low scale last v h e = (omega arith, omega arith)
val-rest true d low scale last v h e = (omega arith, omega arith)

val-one : (neg : Bool) (b v : ℕ) → b < 128 → Val neg (0 + 1 * b) 1 v → v ≡ group neg b
val-one false b v h e = omega arith
val-one true b v h e = omega arith

module _ (test : ℕ → ℕ → Bool) (limit : ℕ) (neg : Bool) (two : 2 ≤ limit) (most : limit ≤ 128)
    (back : (b w : ℕ) → 128 ≤ b → b < 256 → w < 128 → group neg w < limit → test b w ≡ false → limit ≤ 128 * group neg w + group neg (b - 128)) where
  canon-more : (p b : ℕ) (bs : List ℕ) (c : Digits) → 128 ≤ b → b < 256 → CanonDigits test limit neg b bs c
      → CanonDigits test limit neg p (b ∷ bs) (more (b - 128) c)
  canon-more p b bs (broken r) h k s = tt
  canon-more p b bs (whole low scale prev last count) h k s =
      (omega arith, λ v vb f g t x. all v vb f g t (val-rest neg (b - 128) low scale last v (omega arith) x))
    where
      all : (v : ℕ) → v < 2 ^ 64 → last < 128 → group neg last < limit → (1 < count + 1 → test prev last ≡ false)
          → Val neg (low + scale * last) scale (v / 128) × (v % 128 ≡ group neg (b - 128)) → Canon test limit neg p (b ∷ bs) v prev last (count + 1)
      all v vb f g t x =
          let inner : Canon test limit neg b bs (v / 128) prev last count = s.1 (v / 128) (omega arith) f g (λ q. t (omega arith)) x.0 in
          let large : limit ≤ v = elim (dec_lt 1 count) [
            | yes q ↦ omega (arith, inner.many q)
            | no q ↦
                let e = inner.one (omega (arith, s.0)) in
                omega (arith, x.1, e.1, back b last h k f g (rw e.0 at (t (omega (arith, s.0)))))
          ] in
          let head : b ≡ 128 + group neg (v % 128) = rw (x.1, group-group neg (b - 128) (omega arith)) (omega arith) in
          record {
            same = rw (add-one count, inner.same, encoded-more limit neg v two large vb) (ap (λ (z : ℕ). z ∷ encoded limit neg (v / 128)) head);
            many = λ q. large;
            one = λ q. absurd (omega (arith, s.0));
          }

  canon : (n p : ℕ) (bs : List ℕ) → ((i : ℕ) → get_or bs i 0 < 256) → CanonDigits test limit neg p bs (digits n p bs)
  canon n p [] B = tt
  canon n p (b ∷ bs) B = first (ltb b 128) refl (canon (n + 1) b bs (λ i. B (suc i)))
    where
      rest : (t : Bool) → 128 ≤ b → CanonDigits test limit neg b bs (digits (n + 1) b bs)
          → CanonDigits test limit neg p (b ∷ bs) (cond t (broken 2) (more (b - 128) (digits (n + 1) b bs)))
      rest true h ih = tt
      rest false h ih = canon-more p b bs (digits (n + 1) b bs) h (B 0) ih

      first : (t : Bool) → ltb b 128 ≡ t → CanonDigits test limit neg b bs (digits (n + 1) b bs)
          → CanonDigits test limit neg p (b ∷ bs) (cond t (whole 0 1 p b 1) (cond (eqb n 9) (broken 2) (more (b - 128) (digits (n + 1) b bs))))
      first false e ih = rest (eqb n 9) (ltb-false b 128 e) ih
      first true e ih = (
        omega arith,
        λ v vb f g t x.
            let z : v ≡ group neg b = val-one neg b v f x in
            record {
              same = rw (encoded-last limit neg v (rw z g), z, group-group neg b f);
              many = λ q. absurd (omega arith);
              one = λ q. (refl, z);
            },
      )

u-back : (b w : ℕ) → 128 ≤ b → b < 256 → w < 128 → group false w < 128 → u-test b w ≡ false → 128 ≤ 128 * group false w + group false (b - 128)
u-back b w h k f g t = omega (arith, eqb-false w 0 t)

s-back : (neg : Bool) (b w : ℕ) → 128 ≤ b → b < 256 → w < 128 → group neg w < 64 → s-test b w ≡ false → 64 ≤ 128 * group neg w + group neg (b - 128)
s-back false b w h k f g t = elim (dec_lt (b - 128) 64) [
  | yes q ↦ let z : fill b ≡ 0 = fill-low b (omega arith) in omega (arith, eqb-false w 0 (rw z at t))
  | no q ↦ omega arith
]
s-back true b w h k f g t = elim (dec_lt (b - 128) 64) [
  | yes q ↦ omega arith
  | no q ↦ let z : fill b ≡ 127 = fill-high b (omega arith) in omega (arith, eqb-false w 127 (rw z at t))
]

u-accepted : (at place v m : ℕ) (bs : List ℕ) (c : Digits) → SoundDigits 0 (length bs) c → CanonDigits u-test 128 false 0 bs c
    → unsigned at place c ≡ got v m
    → (take (m - at) bs ≡ u64_bytes v) × (v < 2 ^ 64)
u-accepted at place v m bs (broken r) s k e = let z : ◌≡◌ {A = ℕ} 0 1 = cc in absurd (omega arith)
u-accepted at place v m bs (whole low scale prev last count) s k e = go (u_large last count) (u_long last count) refl refl e
  where
    go : (a b : Bool) → u_large last count ≡ a → u_long last count ≡ b
        → cond a (bad 2 place) (cond b (bad 3 place) (got (low + scale * last) (at + count))) ≡ got v m
        → (take (m - at) bs ≡ u64_bytes v) × (v < 2 ^ 64)
    go true b x y e = let z : ◌≡◌ {A = ℕ} 0 1 = cc in absurd (omega arith)
    go false true x y e = let z : ◌≡◌ {A = ℕ} 0 1 = cc in absurd (omega arith)
    go false false x y e =
        let p : v ≡ low + scale * last = cc in
        let q : at + count ≡ m = cc in
        let q' : m - at ≡ count = omega arith in
        let fit : low + scale * last < 2 ^ 64 = u-fits low scale last count s.0 x in
        rw (q', p) ((k.1 (low + scale * last) fit s.0.final s.0.final (λ h. rw (lt-ltb 1 count h) at y) refl).same, fit)

-- every accepted encoding is the one that is written
pub u-only : (bs : List ℕ) → ((i : ℕ) → get_or bs i 0 < 256) → (at place v m : ℕ) → unsigned at place (digits 0 0 bs) ≡ got v m
    → (take (m - at) bs ≡ u64_bytes v) × (v < 2 ^ 64)
u-only bs B at place v m e =
    u-accepted at place v m bs (digits 0 0 bs) (sound 0 0 bs (omega arith) B) (canon u-test 128 false (omega arith) (omega arith) u-back 0 0 bs B) e

s-accepted : (at place m : ℕ) (x : ℤ) (bs : List ℕ) (c : Digits) → SoundDigits 0 (length bs) c → ((neg : Bool) → CanonDigits s-test 64 neg 0 bs c)
    → signed at place c ≡ got x m
    → (take (m - at) bs ≡ i64_bytes x) × (mag x < 2 ^ 63)
s-accepted at place m x bs (broken r) s k e = let z : ◌≡◌ {A = ℕ} 0 1 = cc in absurd (omega arith)
s-accepted at place m x bs (whole low scale prev last count) s k e = go (s_large last count) (s_long prev last count) (ltb last 64) refl refl refl e
  where
    go : (a b d : Bool) → s_large last count ≡ a → s_long prev last count ≡ b → ltb last 64 ≡ d
        → cond a (bad 2 place) (cond b (bad 3 place) (got (cond d (pos (low + scale * last)) (negsuc (scale * 128 - suc (low + scale * last))))
        (at + count))) ≡ got x m
        → (take (m - at) bs ≡ i64_bytes x) × (mag x < 2 ^ 63)
    go true b d l y h e = let z : ◌≡◌ {A = ℕ} 0 1 = cc in absurd (omega arith)
    go false true d l y h e = let z : ◌≡◌ {A = ℕ} 0 1 = cc in absurd (omega arith)
    go false false true l y h e =
        let p : x ≡ pos (low + scale * last) = cc in
        let q : at + count ≡ m = cc in
        let q' : m - at ≡ count = omega arith in
        let lt : last < 64 = ltb-true last 64 h in
        let fit : low + scale * last < 2 ^ 63 = s-low low scale last count s.0 l lt in
        rw (q', p) (((k false).1 (low + scale * last) (omega arith) s.0.final lt (λ h. rw (lt-ltb 1 count h) at y) refl).same, fit)
    go false false false l y h e =
        let v : ℕ = scale * 128 - suc (low + scale * last) in
        let p : x ≡ negsuc (scale * 128 - suc (low + scale * last)) = cc in
        let q : at + count ≡ m = cc in
        let q' : m - at ≡ count = omega arith in
        let ge : 64 ≤ last = ltb-false last 64 h in
        let fit : scale * 128 - suc (low + scale * last) < 2 ^ 63 =
        rw (s-flip low scale last count s.0 l) at (s-high low scale last count s.0 l ge) in
        let top : scale * last ≤ scale * 127 = mul-le-mul_left {m = last} {n = 127} scale (omega (arith, s.0.final)) in
        rw (q', p) (
          ((k true).1 (scale * 128 - suc (low + scale * last)) (omega arith) s.0.final (omega (arith, s.0.final))
              (λ h. rw (lt-ltb 1 count h) at y) (omega (arith, s.0.below))).same,
          fit,
        )

pub s-only : (bs : List ℕ) → ((i : ℕ) → get_or bs i 0 < 256) → (at place m : ℕ) (x : ℤ) → signed at place (digits 0 0 bs) ≡ got x m
    → (take (m - at) bs ≡ i64_bytes x) × (mag x < 2 ^ 63)
s-only bs B at place m x e =
    s-accepted at place m x bs (digits 0 0 bs) (sound 0 0 bs (omega arith) B)
    (λ neg. canon s-test 64 neg (omega arith) (omega arith) (s-back neg) 0 0 bs B) e
