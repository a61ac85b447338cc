-- What crates above use of numbers, at a position: every number reads back from its encoding whatever follows (`-back`), every accepted
-- encoding is the one that is written, of a number within its type (`-only`), and reading advances and stays within (`-next`).
-- Of a number that was passed over, its end says whether it reads (`end_on`, `end-off`).
-- An encoding has 1 to 10 bytes, and putting one where there is room stores it. Assumes nothing.
use mathlib.Core.Path.{◌≡◌, refl, sym, ap}
use mathlib.Core.List.{List, [], ◌∷◌, ◌++◌}
use mathlib.Core.Bool.{Bool, true, false, cond}
use Prim.Native.Nat.{ℕ, suc, ◌+◌, ◌*◌, ◌-◌, ◌^◌, ◌≤◌, ◌<◌, min}
use native.Mathlib.Omega.{arith}
use lib.Dec.{ltb, eqb}
use lib.ListN.{length, get_or, take, drop, length-drop}
use lib.Seq.{sets, drop-append_seam, get_or-drop}
use Rattle.leb128.specs.Got.{Got, got, bad}
use Rattle.leb128.specs.Digits.{Digits, whole, broken, more, digits}
use Rattle.leb128.specs.Write.{u64_bytes, i64_bytes, put_at, put_out}
use Rattle.leb128.specs.Read.{u_large, u_long, unsigned, s_large, s_long, signed_of, signed, u64_at, end_of, i64_at}
use lib.IntN.{ℤ, pos, negsuc}
use lib.Signed.{mag}
use Rattle.leb128.proofs.Encoded.{encoded-last, encoded-some, encoded-short, put-yes}
use Rattle.leb128.proofs.Back.{u-round, s-round}
use Rattle.leb128.proofs.Only.{u-only, s-only}
use Rattle.leb128.specs.Answer.{done}

-- what was written behind pre is read there
pub u64-back : (pre rest : List ℕ) (v : ℕ) → v < 2 ^ 64 → u64_at (pre ++ (u64_bytes v ++ rest)) (length pre) ≡ got v (length pre + length (u64_bytes v))
unfolding u64_at
u64-back pre rest v h = rw (drop-append_seam pre (u64_bytes v ++ rest)) (u-round (length pre) _ v rest h)

pub i64-back : (pre rest : List ℕ) (x : ℤ) → mag x < 2 ^ 63 → i64_at (pre ++ (i64_bytes x ++ rest)) (length pre) ≡ got x (length pre + length (i64_bytes x))
unfolding i64_at
i64-back pre rest x h = rw (drop-append_seam pre (i64_bytes x ++ rest)) (s-round (length pre) _ x rest h)

-- a number has a byte, and ends within the bytes
abbrev Counted : ℕ → Digits → Type 0
Counted len (whole low scale prev last count) = (0 < count) × (count ≤ len)
Counted len (broken r) = Unit {0}

counted-more : (len d : ℕ) (c : Digits) → Counted len c → Counted (suc len) (more d c)
counted-more len d (whole low scale prev last count) h = omega arith
counted-more len d (broken r) h = tt

counted : (n p : ℕ) (bs : List ℕ) → Counted (length bs) (digits n p bs)
counted n p [] = tt
counted n p (b ∷ bs) = go (ltb b 128) (eqb n 9) (counted (n + 1) b bs)
  where
    go : (t u : Bool) → Counted (length bs) (digits (n + 1) b bs)
        → Counted (suc (length bs)) (cond t (whole 0 1 p b 1) (cond u (broken 2) (more (b - 128) (digits (n + 1) b bs))))
    go true u ih = omega arith
    go false true ih = tt
    go false false ih = counted-more (length bs) (b - 128) (digits (n + 1) b bs) ih

u-after : (s : List ℕ) (at place v next : ℕ) (c : Digits) → Counted (length (drop at s)) c → unsigned at place c ≡ got v next
    → (at < next) × (next ≤ length s)
u-after s at place v next (broken r) k e = let z : ◌≡◌ {A = ℕ} 0 1 = cc in absurd (omega arith)
u-after s at place v next (whole low scale prev last count) k e = go (u_large last count) (u_long last count) e
  where
    go : (a b : Bool) → cond a (bad 2 place) (cond b (bad 3 place) (got (low + scale * last) (at + count))) ≡ got v next → (at < next) × (next ≤ length s)
    go true b e = let z : ◌≡◌ {A = ℕ} 0 1 = cc in absurd (omega arith)
    go false true e = let z : ◌≡◌ {A = ℕ} 0 1 = cc in absurd (omega arith)
    go false false e = let q : at + count ≡ next = cc in omega (arith, length-drop at s)

pub u64-next : (s : List ℕ) (at v next : ℕ) → u64_at s at ≡ got v next → (at < next) × (next ≤ length s)
unfolding u64_at
u64-next s at v next e = u-after s at (min at (length s)) v next (digits 0 0 (drop at s)) (counted 0 0 (drop at s)) e

-- a number that was passed over: one stands there (`end_on`), or its end is 0 and it is refused (`end-off`)
pub record Passed (g : Got ℕ) (next : ℕ) : Type 0 where
  pub value : ℕ
  pub read : g ≡ got value next

pub record Refused (g : Got ℕ) : Type 0 where
  pub number : ℕ
  pub place : ℕ
  pub read : g ≡ bad number place

pub end_on : (g : Got ℕ) (next : ℕ) → next ≡ end_of g → (next ≡ 0 → ⊥) → Passed g next
end_on (got v z) next e k = record { value = v; read = ap (got v) (sym e) }
end_on (bad r place) next e k = absurd (k e)

pub end-off : (s : List ℕ) (at next : ℕ) → next ≡ end_of (u64_at s at) → next ≡ 0 → Refused (u64_at s at)
end-off s at next e z = go (u64_at s at) refl e
  where
    go : (g : Got ℕ) → u64_at s at ≡ g → next ≡ end_of g → Refused g
    go (got v w) q e = absurd (omega (arith, u64-next s at v w q))
    go (bad r place) q e = record { number = r; place = place; read = refl }

s-after : (s : List ℕ) (at place next : ℕ) (x : ℤ) (c : Digits) → Counted (length (drop at s)) c → signed at place c ≡ got x next
    → (at < next) × (next ≤ length s)
s-after s at place next x (broken r) k e = let z : ◌≡◌ {A = ℕ} 0 1 = cc in absurd (omega arith)
s-after s at place next x (whole low scale prev last count) k e = go (s_large last count) (s_long prev last count) e
  where
    go : (a b : Bool) → cond a (bad 2 place) (cond b (bad 3 place) (got (signed_of low scale last) (at + count))) ≡ got x next
        → (at < next) × (next ≤ length s)
    go true b e = let z : ◌≡◌ {A = ℕ} 0 1 = cc in absurd (omega arith)
    go false true e = let z : ◌≡◌ {A = ℕ} 0 1 = cc in absurd (omega arith)
    go false false e = let q : at + count ≡ next = cc in omega (arith, length-drop at s)

pub i64-next : (s : List ℕ) (at next : ℕ) (x : ℤ) → i64_at s at ≡ got x next → (at < next) × (next ≤ length s)
unfolding i64_at
i64-next s at next x e = s-after s at (min at (length s)) next x (digits 0 0 (drop at s)) (counted 0 0 (drop at s)) e

module _ (s : List ℕ) (B : (i : ℕ) → get_or s i 0 < 256) where
  pub u64-only : (at v next : ℕ) → u64_at s at ≡ got v next → (take (next - at) (drop at s) ≡ u64_bytes v) × (v < 2 ^ 64)
  unfolding u64_at
  u64-only at v next e = u-only (drop at s) (λ i. rw (get_or-drop at s i 0) (B (at + i))) at (min at (length s)) v next e

  pub i64-only : (at next : ℕ) (x : ℤ) → i64_at s at ≡ got x next → (take (next - at) (drop at s) ≡ i64_bytes x) × (mag x < 2 ^ 63)
  unfolding i64_at
  i64-only at next x e = s-only (drop at s) (λ i. rw (get_or-drop at s i 0) (B (at + i))) at (min at (length s)) next x e

pub u64-short : (v : ℕ) → (0 < length (u64_bytes v)) × (length (u64_bytes v) ≤ 10)
u64-short v = (encoded-some 128 false v, encoded-short 128 false v)

pub i64-short : (x : ℤ) → (0 < length (i64_bytes x)) × (length (i64_bytes x) ≤ 10)
i64-short (pos n) = (encoded-some 64 false n, encoded-short 64 false n)
i64-short (negsuc n) = (encoded-some 64 true n, encoded-short 64 true n)

pub put-room : (out : List ℕ) (at : ℕ) (bs : List ℕ) → at + length bs ≤ length out
    → (put_at out at bs ≡ done (at + length bs)) × (put_out out at bs ≡ sets out at bs)
put-room out at bs h = let y = put-yes out at bs (length bs) refl h in (sym y.0, sym y.1)

-- a small signed number takes one byte
pub i64-one : (n : ℕ) → n < 64 → (length (i64_bytes (pos n)) ≡ 1) × (length (i64_bytes (negsuc n)) ≡ 1)
i64-one n h = (ap length (encoded-last 64 false n h), ap length (encoded-last 64 true n h))
