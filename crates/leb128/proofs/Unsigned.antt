-- The loops over an unsigned number of more than one byte. Behind n of its bytes, worth low, where the next counts scale times, its digits
-- are `onto` the rest's (`Scanned`). That holds behind the first byte (`begun`), a turn keeps it (`turn`), and each way out reads the answer
-- off it (`cut`, `large`, `overlong`, `number`, `tenth`); `tenth-fits` says that nothing wraps at the tenth byte, as `Room` does before it. A number
-- that begins so is never 0 (`long-nonzero`). Assumes nothing.
use mathlib.Core.Path.{◌≡◌, refl, ap, ◌∙◌}
use mathlib.Core.List.{List, [], ◌∷◌}
use mathlib.Core.Bool.{Bool, true, false, ◌&&◌}
use Prim.Native.Nat.{ℕ, ◌+◌, ◌*◌, ◌-◌, ◌^◌, ◌≤◌, ◌<◌, min}
use native.Mathlib.Decide.{dec_lt}
use native.Mathlib.Omega.{arith}
use lib.Dec.{ltb, eqb}
use lib.ListN.{length, get_or, take, drop}
use lib.Seq.{get_or-take, get_or-drop}
use borrow.Author.Tests.{lt-ltb, le-ltb, eq-eqb, ne_eqb}
use Rattle.leb128.specs.Got.{Got, got, bad}
use Rattle.leb128.specs.Digits.{whole, digits}
use Rattle.leb128.specs.Read.{u_large, u64_at, end_of, nonzero, nonzero_at}
use Rattle.leb128.specs.Write.{u64_bytes}
use Rattle.leb128.proofs.Encoded.{encoded-last}
use Rattle.leb128.proofs.Laws.{u64-next, u64-only}
use Rattle.leb128.proofs.Scanning.{onto}
use Rattle.leb128.proofs.Scanning as scan

pub record Scanned (s : List ℕ) (at low scale n i : ℕ) : Type 0 where
  pub prev : ℕ
  pub there : at < length s
  pub some : 0 < n
  pub place : i ≡ at + n
  pub same : digits 0 0 (drop at s) ≡ onto low scale n (digits n prev (drop i s))

pub begun : (s : List ℕ) (at d : ℕ) → at < length s → 128 ≤ get_or s at 0 → d ≡ get_or s at 0 - 128 → Scanned s at d 128 1 (at + 1)
begun s at d h b e =
    record {
      prev = get_or s at 0;
      there = h;
      some = omega arith;
      place = refl;
      same = scan.begun s at d (get_or s at 0) h refl b e;
    }

and-small : (a : Bool) (last : ℕ) → last ≤ 1 → (a && ltb 1 last) ≡ false
and-small true last h = le-ltb 1 last h
and-small false last h = refl

module _ {s : List ℕ} {at low scale n i : ℕ} (w : Scanned s at low scale n i) where
  start : min at (length s) ≡ at
  start = omega (arith, w.there)

  pub turn : (d : ℕ) → i < length s → 128 ≤ get_or s i 0 → (n ≡ 9 → ⊥) → d ≡ get_or s i 0 - 128
      → Scanned s at (low + scale * d) (scale * 128) (n + 1) (i + 1)
  turn d h b k e =
      record {
        prev = get_or s i 0;
        there = w.there;
        some = omega arith;
        place = omega (arith, w.place);
        same = scan.next s _ low scale n w.prev i w.same h b k e;
      }

  pub cut : length s ≤ i → bad 1 at ≡ u64_at s at
  unfolding u64_at
  cut h = rw (← scan.cut s _ low scale n w.prev i w.same h (λ k. omega (arith, w.some)), start)

  ended : i < length s → get_or s i 0 < 128 → whole low scale w.prev (get_or s i 0) (n + 1) ≡ digits 0 0 (drop at s)
  ended h b = scan.final s _ low scale n w.prev i w.same h b

  pub large : i < length s → n ≡ 9 → 1 < get_or s i 0 → bad 2 at ≡ u64_at s at
  unfolding u64_at
  large h e b = elim (dec_lt (get_or s i 0) 128) [
    | yes k ↦ rw (← ended h k, start, eq-eqb (n + 1) 10 (omega arith), lt-ltb 1 (get_or s i 0) b)
    | no k ↦ rw (← scan.tenth s _ low scale n w.prev i w.same h (omega arith) e, start)
  ]

  pub overlong : i < length s → get_or s i 0 ≡ 0 → bad 3 at ≡ u64_at s at
  unfolding u64_at
  overlong h e =
      let l : u_large (get_or s i 0) (n + 1) ≡ false = and-small (eqb (n + 1) 10) (get_or s i 0) (omega arith) in
      rw (← ended h (omega arith), start, l, lt-ltb 1 (n + 1) (omega (arith, w.some)), eq-eqb (get_or s i 0) 0 e)

  pub number : (v : ℕ) → i < length s → get_or s i 0 < 128 → (get_or s i 0 ≡ 0 → ⊥) → (n ≡ 9 → get_or s i 0 ≤ 1) → v ≡ low + scale * get_or s i 0
      → got v (i + 1) ≡ u64_at s at
  unfolding u64_at
  number v h b k t e =
      let z : i + 1 ≡ at + (n + 1) = omega (arith, w.place) in
      rw (← ended h b, start, not-large, lt-ltb 1 (n + 1) (omega (arith, w.some)), ne_eqb (get_or s i 0) 0 k, e, z)
    where
      not-large : u_large (get_or s i 0) (n + 1) ≡ false
      not-large = elim (dec_lt 1 (get_or s i 0)) [
        | yes q ↦ rw (ne_eqb (n + 1) 10 (λ m. omega (arith, t (omega arith))))
        | no q ↦ and-small (eqb (n + 1) 10) (get_or s i 0) (omega arith)
      ]

  -- a tenth byte is 1
  pub tenth : i < length s → get_or s i 0 ≡ 1 → got (low + scale) (i + 1) ≡ u64_at s at
  tenth h e = number (low + scale) h (omega arith) (λ k. omega arith) (λ m. omega arith) (rw e (omega arith))

  pub no-tenth : i < length s → n ≡ 9 → (get_or s i 0 ≡ 1 → ⊥) → 0 ≡ end_of (u64_at s at)
  no-tenth h e k = elim (dec_lt 1 (get_or s i 0)) [
    | yes b ↦ ap end_of (large h e b)
    | no b ↦ ap end_of (overlong h (omega arith))
  ]

-- the tenth byte counts 2 ^ 63 times
pub tenth-fits : (low scale n : ℕ) → n ≡ 9 → scale ≡ 128 ^ n → low < scale → low + scale < 2 ^ 64
tenth-fits low scale n h e l = let z : scale ≡ 128 ^ 9 = rw h at e in omega arith

-- behind n bytes, whatever they are worth
pub record Passing (s : List ℕ) (at n i : ℕ) : Type 0 where
  pub low : ℕ
  pub scale : ℕ
  pub scanned : Scanned s at low scale n i

-- ---- a number of more than one byte is not 0, whose encoding has one

keeps : (at : ℕ) (g : Got ℕ) → ((v next : ℕ) → g ≡ got v next → v ≡ 0 → ⊥) → g ≡ nonzero at g
keeps at (got v next) h = rw (ne_eqb v 0 (h v next refl))
keeps at (bad r place) h = refl

module _ (s : List ℕ) (B : (i : ℕ) → get_or s i 0 < 256) (at : ℕ) (b : 128 ≤ get_or s at 0) where
  long-some : (v next : ℕ) → u64_at s at ≡ got v next → v ≡ 0 → ⊥
  long-some v next e z =
      let l : at < next = (u64-next s at v next e).0 in
      let k : 0 < next - at = omega arith in
      let w : u64_bytes v ≡ 0 ∷ [] = rw z (encoded-last 128 false 0 (omega arith)) in
      let f : get_or (take (next - at) (drop at s)) 0 0 ≡ 0 = ap (λ (l : List ℕ). get_or l 0 0) ((u64-only s B at v next e).0 ∙ w) in
      let g : get_or (take (next - at) (drop at s)) 0 0 ≡ get_or s (at + 0) 0 = rw (get_or-take, get_or-drop) in
      let o : at + 0 ≡ at = omega arith in
      omega (arith, rw o at g)

  pub long-nonzero : u64_at s at ≡ nonzero_at s at
  unfolding nonzero_at
  long-nonzero = keeps at (u64_at s at) long-some
