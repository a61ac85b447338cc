-- Differences read and added at once: what that says of the literal values still to come (`literal-on`, `literal-off`), and a difference of one or
-- two bytes added by its bytes (`near-alone`, `near-paired`), without asking how many they are (`sum-alone`, `sum-paired`). Assumes nothing.
use Prim.Native.Nat.{ℕ, suc, ◌+◌, ◌*◌, ◌-◌, ◌/◌, ◌%◌, ◌^◌, ◌≤◌, ◌<◌}
use mathlib.Core.Path.{◌≡◌, refl, ◌∙◌, ap}
use mathlib.Core.List.{List}
use mathlib.Core.Option.{Option, none, some}
use mathlib.Core.Bool.{cond}
use mathlib.Core.Logic.{◌⊎◌, inl, inr}
use native.Mathlib.Decide.{dec_lt}
use native.Mathlib.Nat.{zero-mul, one-mul}
use native.Mathlib.Omega.{arith}
use lib.Dec.{ltb}
use lib.IntN.{ℤ}
use lib.ListN.{length, get_or}
use borrow.Author.Tests.{lt-ltb, le-ltb}
use Rattle.leb128.specs.Got.{Got, got, bad}
use Rattle.leb128.specs.Read.{fill, signed_of, i64_at}
use Rattle.leb128.specs.Short.{entry_of}
use Rattle.leb128.proofs.Two.{alone-i64, two-i64}
use Rattle.encoding.specs.Walk.{cut}
use Rattle.encoding.specs.Column.{present, literals}
use Rattle.encoding.proofs.Columns.{literals-on, literals-off}
use Rattle.delta_decoder.specs.Added.{summed_at, adding, over_mark, Alone, Paired}
use Rattle.delta_decoder.specs.Difference.{i64_e}
use Rattle.delta_decoder.specs.Sofar.{sum_of, plus, first, summing}
use Rattle.delta_decoder.proofs.Kept.{plus-fall, plus-rise}
use Rattle.delta_decoder.proofs.Summing.{summing_on, summing-out, summing-end}

module _ (s : List ℕ) (total n c q : ℕ) (l : 0 < c) where
  -- the next sum comes first of those still to come
  pub literal-on : {m z : ℕ} → adding n q (i64_at s q) ≡ got m z
      → summing n (literals i64_e s total c q) ≡ first (present (sum_of m) q) (summing m (literals i64_e s total (c - 1) z))
  literal-on {m} {z} h = go (i64_at s q) refl h
    where
      held : (d : ℤ) (next : ℕ) → i64_at s q ≡ got d next → (o : Option ℕ) → plus n d ≡ o → summed_at q next o ≡ got m z
          → summing n (literals i64_e s total c q) ≡ first (present (sum_of m) q) (summing m (literals i64_e s total (c - 1) z))
      held d next e none p h = let z : ◌≡◌ {A = ℕ} 0 1 = cc in absurd (omega arith)
      held d next e (some k) p h =
          let a : k ≡ m = cc in
          let b : next ≡ z = cc in
          rw (← a, ← b) (summing_on n (literals-on i64_e s total c q next d l e) k p)

      go : (g : Got ℤ) → i64_at s q ≡ g → adding n q g ≡ got m z
          → summing n (literals i64_e s total c q) ≡ first (present (sum_of m) q) (summing m (literals i64_e s total (c - 1) z))
      go (got d next) e h = held d next e (plus n d) refl h
      go (bad number place) e h = let z : ◌≡◌ {A = ℕ} 0 1 = cc in absurd (omega arith)

  -- it is refused, and no more comes
  pub literal-off : {number place : ℕ} → adding n q (i64_at s q) ≡ bad number place → summing n (literals i64_e s total c q) ≡ cut number place
  literal-off {number} {place} h = go (i64_at s q) refl h
    where
      held : (d : ℤ) (next : ℕ) → i64_at s q ≡ got d next → (o : Option ℕ) → plus n d ≡ o → summed_at q next o ≡ bad number place
          → summing n (literals i64_e s total c q) ≡ cut number place
      held d next e none p h =
          let a : 6 ≡ number = cc in
          let b : q ≡ place = cc in
          rw (← a, ← b) (summing-out n (literals-on i64_e s total c q next d l e) p)
      held d next e (some k) p h = let z : ◌≡◌ {A = ℕ} 0 1 = cc in absurd (omega arith)

      go : (g : Got ℤ) → i64_at s q ≡ g → adding n q g ≡ bad number place → summing n (literals i64_e s total c q) ≡ cut number place
      go (got d next) e h = held d next e (plus n d) refl h
      go (bad k p) e h =
          let a : k ≡ number = cc in
          let b : p ≡ place = cc in
          rw (← a, ← b) (summing-end n (literals-off i64_e s total c q k p l e))

-- a signed number of at most two bytes added where there is room for it: its bits, less what its sign takes
plus-signed : (n low scale last m : ℕ) → low + scale * last < scale * 128 → scale * 128 ≤ 16384 → 16384 ≤ n → n + 16384 < 2 ^ 64
    → m ≡ n + (low + scale * last) - last / 64 * (scale * 128) → last / 64 * (scale * 128) ≡ cond (ltb last 64) 0 (scale * 128)
    → plus n (signed_of low scale last) ≡ some m
plus-signed n low scale last m a b r t e f = elim (dec_lt last 64) [
  | yes k ↦ let z : last / 64 * (scale * 128) ≡ 0 = rw (lt-ltb last 64 k) at f in
      rw (lt-ltb last 64 k) (plus-rise n (low + scale * last) (omega arith) ∙ ap some (omega (arith, z)))
  | no k ↦ let l : 64 ≤ last = omega arith in
      let z : last / 64 * (scale * 128) ≡ scale * 128 = rw (le-ltb last 64 l) at f in
      rw (le-ltb last 64 l) (plus-fall n (scale * 128 - suc (low + scale * last)) (omega arith) ∙ ap some (omega (arith, z)))
]

-- what the sign takes
sign-takes : (last top : ℕ) → last < 128 → last / 64 * top ≡ cond (ltb last 64) 0 top
sign-takes last top h = elim (dec_lt last 64) [
  | yes k ↦ let z : last / 64 ≡ 0 = omega arith in rw (lt-ltb last 64 k, z) (zero-mul top)
  | no k ↦ let l : 64 ≤ last = omega arith in let z : last / 64 ≡ 1 = omega arith in rw (le-ltb last 64 l, z) (one-mul top)
]

module _ (s : List ℕ) (at n : ℕ) (r : 16384 ≤ n) (t : n + 16384 < 2 ^ 64) where
  pub near-alone : at < length s → get_or s at 0 < 128 → {m : ℕ} → m ≡ n + get_or s at 0 - get_or s at 0 / 64 * 128 → adding n at (i64_at s at) ≡ got m (at + 1)
  near-alone h b {m} e =
      let f : m ≡ n + (0 + 1 * get_or s at 0) - get_or s at 0 / 64 * (1 * 128) = omega (arith, e) in
      let p = plus-signed n 0 1 (get_or s at 0) m (omega arith) (omega arith) r t f (sign-takes _ (1 * 128) b) in
      ap (adding n at) (alone-i64 s at h b) ∙ ap (summed_at at (at + 1)) p

  pub near-paired : suc at < length s → 128 ≤ get_or s at 0 → get_or s at 0 < 256 → get_or s (suc at) 0 < 128 → (get_or s (suc at) 0 ≡ fill (get_or s at 0) → ⊥)
      → {m : ℕ} → m ≡ n + (get_or s at 0 - 128 + 128 * get_or s (suc at) 0) - get_or s (suc at) 0 / 64 * 16384 → adding n at (i64_at s at) ≡ got m (at + 2)
  near-paired h b w d x {m} e =
      let p = plus-signed n (get_or s at 0 - 128) 128 (get_or s (suc at) 0) m (omega arith) (omega arith) r t e (sign-takes _ 16384 d) in
      ap (adding n at) (two-i64 s at h b d x) ∙ ap (summed_at at (at + 2)) p

-- the entry of a byte that stands alone, and of any other, above the mark
over-alone : (b : ℕ) → b < 128 → over_mark (entry_of b) ≡ b + 128 - b / 64 * 128
over-alone b h = elim (dec_lt b 64) [
  | yes k ↦ rw (lt-ltb b 64 k) (omega arith)
  | no k ↦ let l : 64 ≤ b = omega arith in rw (le-ltb b 64 l, lt-ltb b 128 h) (omega arith)
]

over-more : (b : ℕ) → 128 ≤ b → over_mark (entry_of b) ≡ 0
over-more b h = let l : 64 ≤ b = omega arith in rw (le-ltb b 64 l, le-ltb b 128 h)

pub over-byte : (b : ℕ) → over_mark (entry_of b) < 256
over-byte b = elim (dec_lt b 128) [
  | yes k ↦ let e = over-alone b k in omega (arith, e)
  | no k ↦ let e = over-more b (omega arith) in omega (arith, e)
]

-- the same by the code's sums: `low` and `high` are the bits of the first and the second byte where both count, `more` the mark where one stands alone
abbrev Down : ℕ → ℕ → ℕ
Down high more = more + high / 64 * 16384

abbrev Up : ℕ → ℕ → ℕ → ℕ → ℕ
Up n e low high = n + (e + low + 128 * high)

module _ (n b e high low more : ℕ) (r : 32768 ≤ n) (o : e ≡ over_mark (entry_of b)) where
  module _ (short : b < 128) (h : high ≡ 0) (l : low ≡ 0) (m : more ≡ 128) where
    up-alone : Up n e low high ≡ n + (b + 128 - b / 64 * 128)
    up-alone = let p = o ∙ over-alone b short in rw (h, l) (omega (arith, p))

    down-alone : Down high more ≡ 128
    down-alone = rw (h, m) (omega arith)

    pub room-alone : Down high more ≤ Up n e low high
    room-alone = omega (arith, up-alone, down-alone)

    pub sum-alone : Up n e low high - Down high more ≡ n + b - b / 64 * 128
    sum-alone = rw (up-alone, down-alone) (omega arith)

  module _ (d : ℕ) (first : 128 ≤ b) (byte : b < 256) (last : d < 128) (h : high ≡ d) (l : low ≡ b % 128) (m : more ≡ 0) where
    up-paired : Up n e low high ≡ n + (b - 128 + 128 * d)
    up-paired = let p = o ∙ over-more b first in rw (h, l, p) (omega arith)

    down-paired : Down high more ≡ d / 64 * 16384
    down-paired = rw (h, m) (omega arith)

    pub room-paired : Down high more ≤ Up n e low high
    room-paired = omega (arith, up-paired, down-paired)

    pub sum-paired : Up n e low high - Down high more ≡ n + (b - 128 + 128 * d) - d / 64 * 16384
    sum-paired = rw (up-paired, down-paired)

-- what `only` promises
abbrev Only : ℕ → ℕ → ℕ → Type 0
Only x bit r = (r ≤ x) × (bit ≡ 0 → r ≡ 0) × (bit ≡ 1 → r ≡ x)

-- the byte that would only repeat the sign
fill_is : (b : ℕ) → b % 128 / 64 * 127 ≡ fill b
fill_is b = elim (dec_lt (b % 128) 64) [
  | yes k ↦ rw (lt-ltb (b % 128) 64 k) (omega arith)
  | no k ↦ let l : 64 ≤ b % 128 = omega arith in rw (le-ltb (b % 128) 64 l) (omega arith)
]

module _ (n b d e high low more : ℕ) (r : 32768 ≤ n) (byte : b < 256) (o : e ≡ over_mark (entry_of b)) (h : Only d (b / 128) high)
    (l : Only (b % 128) (b / 128) low) (m : Only 128 (1 - b / 128) more) (small : high < 128) where
  pub near-room : Down high more ≤ Up n e low high
  near-room = elim (dec_lt b 128) [
    | yes k ↦ let z : b / 128 ≡ 0 = omega arith in let w : 1 - b / 128 ≡ 1 = omega arith in
        room-alone n b e high low more r o k (h.1 z) (l.1 z) (m.2 w)
    | no k ↦ let w : b / 128 ≡ 1 = omega arith in let z : 1 - b / 128 ≡ 0 = omega arith in let k' : 128 ≤ b = omega arith in
        let f = h.2 w in let g : d < 128 = omega (arith, f) in
        room-paired n b e high low more r o d k' byte g f (l.2 w) (m.1 z)
  ]

  module _ (behind same : ℕ) (s : Only 256 (1 - b / 128) same) (x : d + same ≡ b % 128 / 64 * 127 → ⊥) where
    pub near-is : Alone b behind n (Up n e low high - Down high more) (behind + b / 128)
        ⊎ Paired b d behind n (Up n e low high - Down high more) (behind + b / 128)
    near-is = elim (dec_lt b 128) [
      | yes k ↦ let z : b / 128 ≡ 0 = omega arith in let w : 1 - b / 128 ≡ 1 = omega arith in
          inl (record { short = k; sum = sum-alone n b e high low more r o k (h.1 z) (l.1 z) (m.2 w); end = omega (arith, z) })
      | no k ↦ let w : b / 128 ≡ 1 = omega arith in let z : 1 - b / 128 ≡ 0 = omega arith in let k' : 128 ≤ b = omega arith in
          let f = h.2 w in let g : d < 128 = omega (arith, f) in let q = s.1 z in
          inr (record {
            first = k';
            last = g;
            strict = λ e. let y = fill_is b in x (omega (arith, q, e, y));
            sum = sum-paired n b e high low more r o d k' byte g f (l.2 w) (m.1 z);
            end = omega (arith, w);
          })
    ]
