-- What was written reads back: once for the unsigned and both signs of the signed numbers. The digits of an encoding have its value
-- (`round`), and no test of the readers refuses them (`u-judge`, `s-judge`). Assumes nothing.
use mathlib.Core.Path.{◌≡◌, refl, ap}
use mathlib.Core.List.{List, ◌++◌}
use mathlib.Core.Bool.{Bool, true, false, ◌&&◌, not}
use Prim.Native.Nat.{ℕ, zero, suc, ◌+◌, ◌*◌, ◌-◌, ◌/◌, ◌%◌, ◌^◌, ◌≤◌, ◌<◌}
use native.Mathlib.Numerals.{add-one}
use native.Mathlib.Nat.{pow-suc, mul-le-mul_left}
use native.Mathlib.Decide.{dec_lt}
use native.Mathlib.Omega.{arith}
use lib.Dec.{ltb, eqb}
use lib.ListN.{length}
use borrow.Author.Tests.{lt-ltb, le-ltb, eq-eqb, ne_eqb, ltb-true, eqb-true}
use Rattle.leb128.specs.Got.{got}
use Rattle.leb128.specs.Digits.{Digits, whole, broken, more, digits}
use Rattle.leb128.specs.Write.{group, encoded, u64_bytes, i64_bytes}
use Rattle.leb128.specs.Read.{u_large, u_long, unsigned, fill, s_large, s_long, signed_of, signed}
use lib.IntN.{ℤ, pos, negsuc}
use lib.Signed.{mag}
use Rattle.leb128.proofs.Sound.{fill-low, fill-high}
use Rattle.leb128.proofs.Encoded.{group-lt, encoded-last, encoded-more}

-- x, the value of some digits, is that of v, complemented in a negative number
abbrev pub Val : Bool → ℕ → ℕ → ℕ → Type 0
Val false x scale v = x ≡ v
Val true x scale v = x + suc v ≡ scale * 128

val-more : (neg : Bool) (low scale last v : ℕ) → Val neg (low + scale * last) scale (v / 128)
    → Val neg (128 + group neg (v % 128) - 128 + 128 * low + 128 * scale * last) (128 * scale) v
val-more false low scale last v h = omega arith
val-more true low scale last v h = omega arith

val-last : (neg : Bool) (v : ℕ) → v < 128 → Val neg (0 + 1 * group neg v) 1 v
val-last false v h = omega arith
val-last true v h = omega arith

pub group-group : (neg : Bool) (d : ℕ) → d < 128 → group neg (group neg d) ≡ d
group-group false d h = refl
group-group true d h = omega arith

-- of the digits of an encoding of v that stands behind the byte p
record Spelt (test : ℕ → ℕ → Bool) (limit : ℕ) (neg : Bool) (p v len low scale prev last count : ℕ) : Type 0 where
  val : Val neg (low + scale * last) scale v
  size : count ≡ len
  some : 0 < count
  below : low < scale
  power : scale * 128 ≡ 128 ^ count
  final : last < 128
  sign : group neg last < limit
  long : 1 < count → test prev last ≡ false
  one : count ≡ 1 → (prev ≡ p) × (last ≡ group neg v) × (v < limit)

abbrev SpeltDigits : (ℕ → ℕ → Bool) → ℕ → Bool → ℕ → ℕ → ℕ → Digits → Type 0
SpeltDigits test limit neg p v len (whole low scale prev last count) = Spelt test limit neg p v len low scale prev last count
SpeltDigits test limit neg p v len (broken r) = ⊥

module _ (test : ℕ → ℕ → Bool) (limit : ℕ) (neg : Bool) (two : 2 ≤ limit) (most : limit ≤ 128)
    (fine : (d w : ℕ) → d < 128 → w < limit → limit ≤ 128 * w + d → test (128 + group neg d) (group neg w) ≡ false) where
  spelt-more : (p v len : ℕ) (c : Digits) → limit ≤ v → SpeltDigits test limit neg (128 + group neg (v % 128)) (v / 128) len c
      → SpeltDigits test limit neg p v (suc len) (more (128 + group neg (v % 128) - 128) c)
  spelt-more p v len (broken r) h s = s
  spelt-more p v len (whole low scale prev last count) h s =
      record {
        val = val-more neg low scale last v s.val;
        size = omega (arith, s.size);
        some = omega arith;
        below = omega (arith, s.below, group-lt neg (v % 128) (omega arith));
        power = rw (add-one count, pow-suc) (omega (arith, s.power));
        final = s.final;
        sign = s.sign;
        long = λ k. elim (dec_lt 1 count) [
          | yes q ↦ s.long q
          | no q ↦ let e = s.one (omega (arith, s.some)) in rw (e.0, e.1) (fine (v % 128) (v / 128) (omega arith) e.2 (omega arith))
        ];
        one = λ k. absurd (omega (arith, s.some));
      }

  spelt-last : (n p v : ℕ) (rest : List ℕ) → v < limit
      → SpeltDigits test limit neg p v (length (encoded limit neg v)) (digits n p (encoded limit neg v ++ rest))
  spelt-last n p v rest h =
      rw (encoded-last limit neg v h, lt-ltb (group neg v) 128 (group-lt neg v (omega arith)))
      record {
        val = val-last neg v (omega arith);
        size = refl;
        some = omega arith;
        below = omega arith;
        power = refl;
        final = group-lt neg v (omega arith);
        sign = rw (group-group neg v (omega arith)) h;
        long = λ k. absurd (omega arith);
        one = λ k. (refl, refl, h);
      }

  round : (k n p v : ℕ) (rest : List ℕ) → n + k ≡ 9 → v < 128 ^ k * 2 → v < 2 ^ 64
      → SpeltDigits test limit neg p v (length (encoded limit neg v)) (digits n p (encoded limit neg v ++ rest))
  round zero n p v rest e h b = spelt-last n p v rest (omega arith)
  round (suc k) n p v rest e h b =
      elim (dec_lt v limit) [
        | yes q ↦ spelt-last n p v rest q
        | no q ↦
            rw (encoded-more limit neg v two (omega arith) b, le-ltb (128 + group neg (v % 128)) 128 (omega arith), ne_eqb n 9 (omega arith))
            (spelt-more p v (length (encoded limit neg (v / 128)))
            (digits (n + 1) (128 + group neg (v % 128)) (encoded limit neg (v / 128) ++ rest)) (omega arith)
            (round k (n + 1) (128 + group neg (v % 128)) (v / 128) rest (omega arith) (omega (arith, pow-suc 128 k)) (omega arith)))
      ]

and_no : (a b : Bool) → (a ≡ true → b ≡ false) → (a && b) ≡ false
and_no true b h = h refl
and_no false b h = refl

-- ---- unsigned

abbrev pub u-test : ℕ → ℕ → Bool
u-test prev last = eqb last 0

u-fine : (d w : ℕ) → d < 128 → w < 128 → 128 ≤ 128 * w + d → u-test (128 + group false d) (group false w) ≡ false
u-fine d w h k l = ne_eqb w 0 (omega arith)

-- the tenth byte counts 2 ^ 63 times
tenth : (scale count : ℕ) → scale * 128 ≡ 128 ^ count → count ≡ 10 → scale ≡ 2 ^ 63
tenth scale count e h = let z : scale * 128 ≡ 128 ^ 10 = rw h at e in omega arith

u-judge : (at place p v len : ℕ) (c : Digits) → v < 2 ^ 64 → SpeltDigits u-test 128 false p v len c → unsigned at place c ≡ got v (at + len)
u-judge at place p v len (broken r) h s = absurd s
u-judge at place p v len (whole low scale prev last count) h s = rw (large, long, s.val, s.size)
  where
    large : u_large last count ≡ false
    large = and_no (eqb count 10) (ltb 1 last) (λ e. le-ltb 1 last (elim (dec_lt last 2) [
      | yes q ↦ omega arith
      | no q ↦ omega (arith, s.val, tenth scale count s.power (eqb-true count 10 e), mul-le-mul_left {m = 2} {n = last} scale (omega arith))
    ]))

    long : u_long last count ≡ false
    long = and_no (ltb 1 count) (eqb last 0) (λ e. s.long (ltb-true 1 count e))

-- reading back what was written
pub u-round : (at place v : ℕ) (rest : List ℕ) → v < 2 ^ 64 → unsigned at place (digits 0 0 (u64_bytes v ++ rest)) ≡ got v (at + length (u64_bytes v))
u-round at place v rest h =
    u-judge at place 0 v (length (u64_bytes v)) (digits 0 0 (u64_bytes v ++ rest)) h
    (round u-test 128 false (omega arith) (omega arith) u-fine 9 0 0 v rest refl h h)

-- ---- signed

abbrev pub s-test : ℕ → ℕ → Bool
s-test prev last = eqb last (fill prev)

s-fine : (neg : Bool) (d w : ℕ) → d < 128 → w < 64 → 64 ≤ 128 * w + d → s-test (128 + group neg d) (group neg w) ≡ false
s-fine false d w h k l = ne_eqb w (fill (128 + d)) (elim (dec_lt d 64) [
  | yes q ↦ λ e. omega (arith, e, fill-low (128 + d) (omega arith))
  | no q ↦ λ e. omega (arith, e, fill-high (128 + d) (omega arith))
])
s-fine true d w h k l = ne_eqb (127 - w) (fill (128 + (127 - d))) (elim (dec_lt d 64) [
  | yes q ↦ λ e. omega (arith, e, fill-high (128 + (127 - d)) (omega arith))
  | no q ↦ λ e. omega (arith, e, fill-low (128 + (127 - d)) (omega arith))
])

abbrev signed_by : Bool → ℕ → ℤ
signed_by false v = pos v
signed_by true v = negsuc v

-- the tenth byte only repeats the sign
s-tenth : (neg : Bool) (low scale last count v : ℕ) → v < 2 ^ 63 → low < scale → last < 128 → scale ≡ 2 ^ 63 → Val neg (low + scale * last) scale v
    → last ≡ fill last
s-tenth false low scale last count v h b f e x =
    let z : last < 1 = elim (dec_lt last 1) [ yes q ↦ q | no q ↦ absurd (omega (arith, mul-le-mul_left {m = 1} {n = last} scale (omega arith))) ] in
    omega (arith, fill-low last (omega arith))
s-tenth true low scale last count v h b f e x =
    let z : 127 ≤ last =
    elim (dec_lt last 127) [ yes q ↦ absurd (omega (arith, mul-le-mul_left {m = last} {n = 126} scale (omega arith))) | no q ↦ omega arith ] in
    omega (arith, fill-high last (omega arith))

s-value : (neg : Bool) (low scale last v : ℕ) → last < 128 → group neg last < 64 → Val neg (low + scale * last) scale v
    → signed_of low scale last ≡ signed_by neg v
s-value false low scale last v f h x = rw (lt-ltb last 64 h, x)
s-value true low scale last v f h x = rw (le-ltb last 64 (omega arith)) (ap negsuc (omega arith))

s-judge : (neg : Bool) (at place p v len : ℕ) (c : Digits) → v < 2 ^ 63 → SpeltDigits s-test 64 neg p v len c
    → signed at place c ≡ got (signed_by neg v) (at + len)
s-judge neg at place p v len (broken r) h s = absurd s
s-judge neg at place p v len (whole low scale prev last count) h s = rw (large, long, s-value neg low scale last v s.final s.sign s.val, s.size)
  where
    large : s_large last count ≡ false
    large = and_no (eqb count 10) (not (eqb last (fill last)))
        (λ e. ap not (eq-eqb last (fill last) (s-tenth neg low scale last count v h s.below s.final
        (tenth scale count s.power (eqb-true count 10 e)) s.val)))

    long : s_long prev last count ≡ false
    long = and_no (ltb 1 count) (eqb last (fill prev)) (λ e. s.long (ltb-true 1 count e))

-- reading back what was written
pub s-round : (at place : ℕ) (x : ℤ) (rest : List ℕ) → mag x < 2 ^ 63
    → signed at place (digits 0 0 (i64_bytes x ++ rest)) ≡ got x (at + length (i64_bytes x))
s-round at place (pos n) rest h =
    s-judge false at place 0 n (length (i64_bytes (pos n))) (digits 0 0 (i64_bytes (pos n) ++ rest)) h
    (round s-test 64 false (omega arith) (omega arith) (s-fine false) 9 0 0 n rest refl (omega arith) (omega arith))
s-round at place (negsuc n) rest h =
    s-judge true at place 0 n (length (i64_bytes (negsuc n))) (digits 0 0 (i64_bytes (negsuc n) ++ rest)) h
    (round s-test 64 true (omega arith) (omega arith) (s-fine true) 9 0 0 n rest refl (omega arith) (omega arith))
