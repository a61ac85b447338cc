-- A NUMBER THAT IS REFUSED, BY ITS BYTES: where no byte is there it is 21, where the bytes end behind one with bit 7 set it is 1, and else all its bytes are there, and it is 2 or 3. Of
-- both readers, which refuse with the position as the place. Assumes nothing.
use Prim.Native.Nat.{ℕ, zero, suc, ◌+◌, ◌*◌, ◌-◌, ◌≤◌, ◌<◌, min}
use mathlib.Core.Logic.{◌⊎◌, inl, inr}
use mathlib.Core.Path.{◌≡◌, refl, sym, ◌∙◌, ap}
use mathlib.Core.List.{List, [], ◌∷◌}
use mathlib.Core.Bool.{Bool, true, false, cond}
use native.Mathlib.Numerals.{add-one}
use native.Mathlib.Decide.{dec_lt}
use native.Mathlib.Omega.{arith}
use lib.Dec.{ltb, eqb}
use lib.ListN.{length, get_or, drop, length-drop}
use lib.Seq.{get_or-drop}
use borrow.Author.Tests.{ltb-true, ltb-false, eqb-true, eqb-false, eq-eqb, ne_eqb}
use Rattle.leb128.specs.Got.{Got, got, bad}
use Rattle.leb128.specs.Digits.{Digits, whole, broken, more, ended, digits}
use Rattle.leb128.specs.Read.{u_large, u_long, unsigned, s_large, s_long, signed_of, signed, u64_at, i64_at}
use Rattle.reason.specs.Reason.{number_bytes}
use Rattle.reason.specs.True.{Broken}

-- m bytes of a number, behind n of it: all to its last are there
record Full (bs : List ℕ) (n m : ℕ) : Type 0 where
  k : ℕ
  last : m ≡ suc k
  ten : n + m ≤ 10
  within : m ≤ length bs
  more-follow : (i : ℕ) → i < k → 128 ≤ get_or bs i 0
  ends : (get_or bs k 0 < 128) ⊎ (n + m ≡ 10)

-- or the bytes end behind them
record Short (bs : List ℕ) (n m : ℕ) : Type 0 where
  all : m ≡ length bs
  ten : n + m < 10
  more-follow : (i : ℕ) → i < m → 128 ≤ get_or bs i 0

abbrev Spans : List ℕ → ℕ → ℕ → Digits → Type 0
Spans bs n m (whole low scale prev last count) = Full bs n m
Spans bs n m (broken r) = ((r ≡ 2) × Full bs n m) ⊎ ((r ≡ ended (n + m)) × Short bs n m)

full-more : (b : ℕ) (bs : List ℕ) (n m : ℕ) → 128 ≤ b → Full bs (n + 1) m → Full (b ∷ bs) n (suc m)
full-more b bs n m h f = record { k = suc f.k; last = ap suc f.last; ten = omega (arith, f.ten); within = omega (arith, f.within); more-follow = each; ends = tail f.ends }
  where
    each : (i : ℕ) → i < suc f.k → 128 ≤ get_or (b ∷ bs) i 0
    each zero l = h
    each (suc i) l = f.more-follow i (omega arith)

    tail : (get_or bs f.k 0 < 128) ⊎ (n + 1 + m ≡ 10) → (get_or bs f.k 0 < 128) ⊎ (n + suc m ≡ 10)
    tail (inl x) = inl x
    tail (inr x) = inr (omega arith)

short-more : (b : ℕ) (bs : List ℕ) (n m : ℕ) → 128 ≤ b → Short bs (n + 1) m → Short (b ∷ bs) n (suc m)
short-more b bs n m h f = record { all = ap suc f.all; ten = omega (arith, f.ten); more-follow = each }
  where
    each : (i : ℕ) → i < suc m → 128 ≤ get_or (b ∷ bs) i 0
    each zero l = h
    each (suc i) l = f.more-follow i (omega arith)

spans-more : (b d : ℕ) (bs : List ℕ) (n m : ℕ) (c : Digits) → 128 ≤ b → Spans bs (n + 1) m c → Spans (b ∷ bs) n (suc m) (more d c)
spans-more b d bs n m (whole low scale prev last count) h f = full-more b bs n m h f
spans-more b d bs n m (broken r) h (inl x) = inl (x.0, full-more b bs n m h x.1)
spans-more b d bs n m (broken r) h (inr x) =
    let e : n + 1 + m ≡ n + suc m = omega arith in
    inr (x.0 ∙ ap (λ (k : ℕ). ended k) e, short-more b bs n m h x.1)

spans : (n p : ℕ) (bs : List ℕ) → n ≤ 9 → Spans bs n (number_bytes n bs) (digits n p bs)
unfolding number_bytes
spans n p [] h = let e : n ≡ n + 0 = omega arith in inr (ap (λ (k : ℕ). ended k) e, record { all = refl; ten = omega arith; more-follow = λ i l. absurd (omega arith) })
spans n p (b ∷ bs) h = go (ltb b 128) (eqb n 9) refl refl (spans (n + 1) b bs)
  where
    alone : (get_or (b ∷ bs) 0 0 < 128) ⊎ (n + 1 ≡ 10) → Full (b ∷ bs) n 1
    alone e = record { k = 0; last = refl; ten = omega arith; within = omega arith; more-follow = λ i l. absurd (omega arith); ends = e }

    go : (t u : Bool) → ltb b 128 ≡ t → eqb n 9 ≡ u → (n + 1 ≤ 9 → Spans bs (n + 1) (number_bytes (n + 1) bs) (digits (n + 1) b bs))
        → Spans (b ∷ bs) n (cond t 1 (cond u 1 (suc (number_bytes (suc n) bs)))) (cond t (whole 0 1 p b 1) (cond u (broken 2) (more (b - 128) (digits (n + 1) b bs))))
    go true u e f r = alone (inl (ltb-true b 128 e))
    go false true e f r = inl (refl, alone (inr (omega (arith, eqb-true n 9 f))))
    go false false e f r =
        let l : n + 1 ≤ 9 = omega (arith, eqb-false n 9 f) in
        let i : Spans bs (n + 1) (number_bytes (suc n) bs) (digits (n + 1) b bs) = rw (← add-one n) (r l) in
        spans-more b (b - 128) bs n (number_bytes (suc n) bs) (digits (n + 1) b bs) (ltb-false b 128 e) i

-- ---- at a position

module _ (s : List ℕ) (at m : ℕ) (l : at ≤ length s) where
  full-broken : (number : ℕ) → (number ≡ 2) ⊎ (number ≡ 3) → Full (drop at s) 0 m → Broken s number at m
  full-broken number e f =
      Broken.whole e {m = f.k} f.last (omega (arith, f.ten)) (omega (arith, f.within, length-drop at s)) (λ i h. rw (get_or-drop at s i 0) at (f.more-follow i h)) (tail f.ends)
    where
      tail : (get_or (drop at s) f.k 0 < 128) ⊎ (0 + m ≡ 10) → (get_or s (at + f.k) 0 < 128) ⊎ (m ≡ 10)
      tail (inl x) = inl (rw (get_or-drop at s f.k 0) at x)
      tail (inr x) = inr (omega arith)

  short-broken : (number : ℕ) → number ≡ ended (0 + m) → Short (drop at s) 0 m → Broken s number at m
  short-broken number e f = elim (dec_lt 0 m) [
    | yes h ↦ Broken.cut (e ∙ rw (ne_eqb (0 + m) 0 (omega arith)) refl) h (omega (arith, f.ten)) (omega (arith, f.all, length-drop at s)) (λ i h. rw (get_or-drop at s i 0) at (f.more-follow i h))
    | no h ↦ Broken.none (e ∙ rw (eq-eqb (0 + m) 0 (omega arith)) refl) (omega (arith, f.all, length-drop at s)) (omega arith)
  ]

  broken-digits : (number r : ℕ) → r ≡ number → Spans (drop at s) 0 m (broken r) → Broken s number at m
  broken-digits number r e (inl x) = full-broken number (inl (sym e ∙ x.0)) x.1
  broken-digits number r e (inr x) = short-broken number (sym e ∙ x.0) x.1

-- ---- of a reader, by what it makes of digits

module _ {A : Type 0} (s : List ℕ) (at number place : ℕ) (of : Digits → Got A)
    (whole-bad : (low scale prev last count : ℕ) → of (whole low scale prev last count) ≡ bad number place → ((number ≡ 2) ⊎ (number ≡ 3)) × (place ≡ min at (length s)))
    (broken-bad : (r : ℕ) → of (broken r) ≡ bad r (min at (length s))) where
  digits-broken : at ≤ length s → of (digits 0 0 (drop at s)) ≡ bad number place → (place ≡ at) × Broken s number at (number_bytes 0 (drop at s))
  digits-broken l e = go (digits 0 0 (drop at s)) (spans 0 0 (drop at s) (omega arith)) e
    where
      here : min at (length s) ≡ at
      here = omega arith

      go : (c : Digits) → Spans (drop at s) 0 (number_bytes 0 (drop at s)) c → of c ≡ bad number place → (place ≡ at) × Broken s number at (number_bytes 0 (drop at s))
      go (whole low scale prev last count) f k =
          let j = whole-bad low scale prev last count k in
          (j.1 ∙ here, full-broken s at (number_bytes 0 (drop at s)) l number j.0 f)
      go (broken r) f k =
          let b : ◌≡◌ {A = Got A} (bad r (min at (length s))) (bad number place) = sym (broken-bad r) ∙ k in
          let q : place ≡ min at (length s) = cc in
          let m : r ≡ number = cc in
          (q ∙ here, broken-digits s at (number_bytes 0 (drop at s)) l number r m f)

-- whole digits that are refused
pub judged : {A : Type 0} (number place p next : ℕ) (a b : Bool) (v : A) → cond a (bad 2 p) (cond b (bad 3 p) (got v next)) ≡ bad number place
    → ((number ≡ 2) ⊎ (number ≡ 3)) × (place ≡ p)
judged number place p next true b v e = (inl cc, cc)
judged number place p next false true v e = (inr cc, cc)
judged number place p next false false v e = let z : ◌≡◌ {A = ℕ} 0 1 = cc in absurd (omega arith)

module _ (s : List ℕ) (at number place : ℕ) (l : at ≤ length s) where
  pub u64-broken : u64_at s at ≡ bad number place → (place ≡ at) × Broken s number at (number_bytes 0 (drop at s))
  unfolding u64_at
  u64-broken =
      digits-broken s at number place (unsigned at (min at (length s)))
      (λ low scale prev last count. judged number place (min at (length s)) (at + count) (u_large last count) (u_long last count) (low + scale * last)) (λ r. refl) l

  -- a number that reads has all its bytes: so it is where it is refused with 2 as too large for a u32
  pub u64-whole : (v next : ℕ) → u64_at s at ≡ got v next → Broken s 2 at (number_bytes 0 (drop at s))
  unfolding u64_at
  u64-whole v next = go (digits 0 0 (drop at s)) (spans 0 0 (drop at s) (omega arith))
    where
      go : (c : Digits) → Spans (drop at s) 0 (number_bytes 0 (drop at s)) c → unsigned at (min at (length s)) c ≡ got v next
          → Broken s 2 at (number_bytes 0 (drop at s))
      go (whole low scale prev last count) f e = full-broken s at (number_bytes 0 (drop at s)) l 2 (inl refl) f
      go (broken r) f e = let z : ◌≡◌ {A = ℕ} 0 1 = cc in absurd (omega arith)

  pub i64-broken : i64_at s at ≡ bad number place → (place ≡ at) × Broken s number at (number_bytes 0 (drop at s))
  unfolding i64_at
  i64-broken =
      digits-broken s at number place (signed at (min at (length s)))
      (λ low scale prev last count. judged number place (min at (length s)) (at + count) (s_large last count) (s_long prev last count) (signed_of low scale last)) (λ r. refl) l
