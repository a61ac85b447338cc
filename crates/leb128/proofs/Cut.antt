-- A number that was cut: it reads as before where its last byte is there, and is refused with 1, at its first byte, where it is not and a byte of it is.
-- Assumes nothing.
use Prim.Native.Nat.{ℕ, suc, ◌+◌, ◌*◌, ◌-◌, ◌^◌, ◌≤◌, ◌<◌, min}
use mathlib.Core.Path.{◌≡◌, refl, sym, ◌∙◌, ap}
use mathlib.Core.List.{List, [], ◌∷◌, ◌++◌}
use mathlib.Core.Bool.{Bool, true, false, cond}
use native.Mathlib.Decide.{dec_lt}
use native.Mathlib.Omega.{arith}
use lib.Dec.{ltb, leb, eqb}
use lib.ListN.{length, drop, length-append, length-drop}
use lib.Seq.{drop-append-le}
use borrow.Author.Tests.{leb-true, ne_eqb}
use Rattle.leb128.specs.Got.{Got, got, bad}
use Rattle.leb128.specs.Digits.{Digits, whole, broken, more, ended, digits}
use Rattle.leb128.specs.Read.{u_large, u_long, unsigned, narrow, u32_at, u64_at}
use Rattle.leb128.proofs.Laws.{u64-next}

-- ---- digits of size bytes that stand behind n others (c), and with more bytes behind them (the last)

abbrev CutDigits : ℕ → ℕ → Digits → Digits → Type 0
CutDigits n size c (whole low scale prev last count) =
    (0 < count) × (count ≤ size → c ≡ whole low scale prev last count) × (size < count → c ≡ broken (ended (n + size)))
CutDigits n size c (broken r) = Unit {0}

cut-more : (n size d : ℕ) (c e : Digits) → CutDigits (n + 1) size c e → CutDigits n (suc size) (more d c) (more d e)
cut-more n size d c (broken r) h = tt
cut-more n size d c (whole low scale prev last count) h =
    let z : n + 1 + size ≡ n + suc size = omega arith in (
      omega arith,
      λ k. let l : count ≤ size = omega arith in ap (more d) (h.1 l),
      λ k. let l : size < count = omega arith in ap (more d) (h.2 l) ∙ ap (λ (m : ℕ). broken (ended m)) z,
    )

positive-more : (n d : ℕ) (e : Digits) → CutDigits (n + 1) 0 (broken (ended (n + 1))) e → CutDigits n 0 (broken (ended n)) (more d e)
positive-more n d (broken r) h = tt
positive-more n d (whole low scale prev last count) h =
    let z : n + 0 ≡ n = omega arith in (
      omega arith,
      λ k. absurd (omega arith),
      λ k. ap (λ (m : ℕ). broken (ended m)) (sym z),
    )

none-there : (n p : ℕ) (u : List ℕ) → CutDigits n 0 (broken (ended n)) (digits n p u)
none-there n p [] = tt
none-there n p (b ∷ bs) = go (ltb b 128) (eqb n 9) (none-there (n + 1) b bs)
  where
    go : (t l : Bool) → CutDigits (n + 1) 0 (broken (ended (n + 1))) (digits (n + 1) b bs)
        → CutDigits n 0 (broken (ended n)) (cond t (whole 0 1 p b 1) (cond l (broken 2) (more (b - 128) (digits (n + 1) b bs))))
    go true l h =
        let z : n + 0 ≡ n = omega arith in
        (omega arith, λ k. absurd (omega arith), λ k. ap (λ (m : ℕ). broken (ended m)) (sym z))
    go false true h = tt
    go false false h = positive-more n (b - 128) (digits (n + 1) b bs) h

digits-cut : (n p : ℕ) (bs u : List ℕ) → CutDigits n (length bs) (digits n p bs) (digits n p (bs ++ u))
digits-cut n p [] u = none-there n p u
digits-cut n p (b ∷ bs) u = go (ltb b 128) (eqb n 9) (digits-cut (n + 1) b bs u)
  where
    go : (t l : Bool) → CutDigits (n + 1) (length bs) (digits (n + 1) b bs) (digits (n + 1) b (bs ++ u))
        → CutDigits n (suc (length bs)) (cond t (whole 0 1 p b 1) (cond l (broken 2) (more (b - 128) (digits (n + 1) b bs))))
        (cond t (whole 0 1 p b 1) (cond l (broken 2) (more (b - 128) (digits (n + 1) b (bs ++ u)))))
    go true l h = (omega arith, λ k. refl, λ k. absurd (omega arith))
    go false true h = tt
    go false false h = cut-more n (length bs) (b - 128) (digits (n + 1) b bs) (digits (n + 1) b (bs ++ u)) h

-- ---- a number (g, and with more bytes behind v, which ends at q), of which size bytes are there

abbrev pub CutNumber : ℕ → ℕ → Got ℕ → ℕ → ℕ → Type 0
CutNumber p size g v q = (q ≤ size → g ≡ got v q) × (p < size → size < q → g ≡ bad 1 p)

ends_at : (at place v q low scale prev last count : ℕ) → unsigned at place (whole low scale prev last count) ≡ got v q → q ≡ at + count
ends_at at place v q low scale prev last count e = go (u_large last count) (u_long last count) e
  where
    go : (a b : Bool) → cond a (bad 2 place) (cond b (bad 3 place) (got (low + scale * last) (at + count))) ≡ got v q → q ≡ at + count
    go true b e = let z : ◌≡◌ {A = ℕ} 0 1 = cc in absurd (omega arith)
    go false true e = let z : ◌≡◌ {A = ℕ} 0 1 = cc in absurd (omega arith)
    go false false e = let z : at + count ≡ q = cc in sym z

unsigned-cut : (at size v q : ℕ) (c d : Digits) → CutDigits 0 size c d → unsigned at at d ≡ got v q → CutNumber at (at + size) (unsigned at at c) v q
unsigned-cut at size v q c (broken r) h e = let z : ◌≡◌ {A = ℕ} 0 1 = cc in absurd (omega arith)
unsigned-cut at size v q c (whole low scale prev last count) h e =
    let k : q ≡ at + count = ends_at at at v q low scale prev last count e in (
      λ l. let m : count ≤ size = omega arith in ap (unsigned at at) (h.1 m) ∙ e,
      λ l m.
          let w : size < count = omega arith in
          let y : 0 + size ≡ 0 → ⊥ = λ i. omega arith in
          let x : ended (0 + size) ≡ 1 = ap (λ (t : Bool). cond t 21 1) (ne_eqb (0 + size) 0 y) in
          ap (unsigned at at) (h.2 w) ∙ ap (λ (r : ℕ). bad r at) x,
    )

inside-cut : (s u : List ℕ) (p v q : ℕ) → p ≤ length s → u64_at (s ++ u) p ≡ got v q → CutNumber p (length s) (u64_at s p) v q
unfolding u64_at
inside-cut s u p v q l e =
    let a : min p (length s) ≡ p = omega arith in
    let b : min p (length (s ++ u)) ≡ p = omega (arith, length-append s u) in
    let f : unsigned p p (digits 0 0 (drop p s ++ u)) ≡ got v q = rw (b, drop-append-le p s u l) at e in
    let z : p + length (drop p s) ≡ length s = omega (arith, length-drop p s) in
    let r : CutNumber p (p + length (drop p s)) (unsigned p p (digits 0 0 (drop p s))) v q =
    unsigned-cut p (length (drop p s)) v q (digits 0 0 (drop p s)) (digits 0 0 (drop p s ++ u)) (digits-cut 0 0 (drop p s) u) f in
    rw a (rw z at r)

pub u64-cut : (s u : List ℕ) (p v q : ℕ) → u64_at (s ++ u) p ≡ got v q → CutNumber p (length s) (u64_at s p) v q
u64-cut s u p v q e = elim (dec_lt (length s) p) [
  | yes l ↦ let n = u64-next (s ++ u) p v q e in (λ k. absurd (omega (arith, n.0)), λ k m. absurd (omega arith))
  | no l ↦ inside-cut s u p v q (omega arith) e
]

-- a number of 32 bits is one of 64 that is small
pub u32-is : (s : List ℕ) (p v q : ℕ) → u32_at s p ≡ got v q → (u64_at s p ≡ got v q) × (v < 2 ^ 32)
unfolding u32_at
u32-is s p v q e = go (u64_at s p) refl e
  where
    small : (w r : ℕ) (t : Bool) → leb w 4294967295 ≡ t → cond t (got w r) (bad 2 p) ≡ got v q → (got w r ≡ got v q) × (v < 2 ^ 32)
    small w r true h e = let z : w ≡ v = cc in (e, omega (arith, leb-true w 4294967295 h))
    small w r false h e = let z : ◌≡◌ {A = ℕ} 0 1 = cc in absurd (omega arith)

    go : (g : Got ℕ) → u64_at s p ≡ g → narrow p g ≡ got v q → (u64_at s p ≡ got v q) × (v < 2 ^ 32)
    go (bad number place) h e = let z : ◌≡◌ {A = ℕ} 0 1 = cc in absurd (omega arith)
    go (got w r) h e = let k = small w r (leb w 4294967295) refl e in (h ∙ k.0, k.1)

pub u32-cut : (s u : List ℕ) (p v q : ℕ) → u32_at (s ++ u) p ≡ got v q → CutNumber p (length s) (u32_at s p) v q
unfolding u32_at
u32-cut s u p v q e =
    let w = (u32-is (s ++ u) p v q e).0 in
    let c = u64-cut s u p v q w in
    (λ l. ap (narrow p) (c.0 l) ∙ sym (ap (narrow p) w) ∙ e, λ l m. ap (narrow p) (c.1 l m))
