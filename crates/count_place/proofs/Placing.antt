-- Bytes beside others: the first of them judged, and two parts in a row. And what their place says of where the whole of two strings differs. Assumes nothing.
use Prim.Native.Nat.{ℕ, suc, ◌+◌, ◌/◌, ◌%◌, ◌^◌, ◌≤◌, ◌<◌}
use mathlib.Core.Path.{◌≡◌, refl, sym, ◌∙◌, ap}
use mathlib.Core.List.{List, [], ◌∷◌, ◌++◌}
use mathlib.Core.Option.{some}
use mathlib.Core.Bool.{Bool, true, false, cond}
use native.Mathlib.Numerals.{add-one}
use native.Mathlib.Omega.{arith}
use lib.Dec.{eqb}
use lib.ListN.{length, get_or, take, drop, drop_of_length-le}
use lib.Seq.{drop-cons, drop-drop}
use borrow.Author.Tests.{eqb-true, eqb-false, eq-eqb, ne_eqb}
use Rattle.leb128.specs.Write.{group, encoded}
use Rattle.leb128.proofs.Encoded.{encoded-last, encoded-more}
use Rattle.own_form.specs.Difference.{differ_at}
use Rattle.count_place.specs.Place.{Place, behind, differs, standing}

-- ---- one byte

module _ (s : List ℕ) (at b : ℕ) where
  pub byte-stands : at < length s → get_or s at 0 ≡ b → behind (at + 1) ≡ standing at (drop at s) (b ∷ [])
  unfolding standing
  byte-stands l e = sym (ap (λ (r : List ℕ). standing at r (b ∷ [])) (drop-cons s at 0 l) ∙ simp (eq-eqb (get_or s at 0) b e, add-one))

  pub byte-differs : at < length s → (get_or s at 0 ≡ b → ⊥) → differs at ≡ standing at (drop at s) (b ∷ [])
  unfolding standing
  byte-differs l e = sym (ap (λ (r : List ℕ). standing at r (b ∷ [])) (drop-cons s at 0 l) ∙ simp (ne_eqb (get_or s at 0) b e))

  pub byte-none : length s ≤ at → differs at ≡ standing at (drop at s) (b ∷ [])
  unfolding standing
  byte-none l = sym (ap (λ (r : List ℕ). standing at r (b ∷ [])) (drop_of_length-le s l))

-- ---- bytes that stand there, and what comes behind them

pub standing_on : (i k : ℕ) (s u v : List ℕ) → standing i s u ≡ behind k
    → (take (length u) s ≡ u) × (k ≡ i + length u) × (standing i s (u ++ v) ≡ standing k (drop (length u) s) v)
unfolding standing
standing_on i k [] [] v e = let q : i ≡ k = cc in (refl, omega arith, ap (λ (j : ℕ). standing j [] v) q)
standing_on i k (a ∷ s) [] v e = let q : i ≡ k = cc in (refl, omega arith, ap (λ (j : ℕ). standing j (a ∷ s) v) q)
standing_on i k [] (b ∷ u) v e = let z : ◌≡◌ {A = ℕ} 0 1 = cc in absurd (omega arith)
standing_on i k (a ∷ s) (b ∷ u) v e = go (eqb a b) refl e (standing_on (suc i) k s u v)
  where
    go : (t : Bool) → eqb a b ≡ t → cond t (standing (suc i) s u) (differs i) ≡ behind k
        → (standing (suc i) s u ≡ behind k → (take (length u) s ≡ u) × (k ≡ suc i + length u) × (standing (suc i) s (u ++ v) ≡ standing k (drop (length u) s) v))
        → (a ∷ take (length u) s ≡ b ∷ u) × (k ≡ i + suc (length u)) × (cond t (standing (suc i) s (u ++ v)) (differs i) ≡ standing k (drop (length u) s) v)
    go true h z r =
        let q = r z in
        (ap (λ (x : ℕ). x ∷ take (length u) s) (eqb-true a b h) ∙ ap (λ (l : List ℕ). b ∷ l) q.0, omega (arith, q.1), q.2)
    go false h z r = let y : ◌≡◌ {A = ℕ} 0 1 = cc in absurd (omega arith)

-- ---- bytes that do not, whatever comes behind them; two strings differ there

pub standing-off : (i k : ℕ) (s u v : List ℕ) → standing i s u ≡ differs k → standing i s (u ++ v) ≡ differs k
unfolding standing
standing-off i k s [] v e = let z : ◌≡◌ {A = ℕ} 0 1 = cc in absurd (omega arith)
standing-off i k [] (b ∷ u) v e = e
standing-off i k (a ∷ s) (b ∷ u) v e = go (eqb a b) e (standing-off (suc i) k s u v)
  where
    go : (t : Bool) → cond t (standing (suc i) s u) (differs i) ≡ differs k → (standing (suc i) s u ≡ differs k → standing (suc i) s (u ++ v) ≡ differs k)
        → cond t (standing (suc i) s (u ++ v)) (differs i) ≡ differs k
    go true z r = r z
    go false z r = z

pub off-place : (i k : ℕ) (s u : List ℕ) → standing i s u ≡ differs k → (take (length u) s ≡ u → ⊥) × (differ_at i s u ≡ some k)
unfolding standing differ_at
off-place i k s [] e = let z : ◌≡◌ {A = ℕ} 0 1 = cc in absurd (omega arith)
off-place i k [] (b ∷ u) e = let q : i ≡ k = cc in (λ z. let y : ◌≡◌ {A = ℕ} 0 1 = cc in omega arith, ap some q)
off-place i k (a ∷ s) (b ∷ u) e = go (eqb a b) refl e (off-place (suc i) k s u)
  where
    go : (t : Bool) → eqb a b ≡ t → cond t (standing (suc i) s u) (differs i) ≡ differs k
        → (standing (suc i) s u ≡ differs k → (take (length u) s ≡ u → ⊥) × (differ_at (suc i) s u ≡ some k))
        → (a ∷ take (length u) s ≡ b ∷ u → ⊥) × (cond t (differ_at (suc i) s u) (some i) ≡ some k)
    go true h z r = let q = r z in (λ y. q.0 (let x : take (length u) s ≡ u = cc in x), q.1)
    go false h z r =
        let q : i ≡ k = cc in
        (λ y. eqb-false a b h (let x : a ≡ b = cc in x), ap some q)

-- ---- the encoding of a number, by its first byte b

-- which is the seven bits g, and bit 7 where more follows
module _ (limit : ℕ) (neg : Bool) (v g : ℕ) (e : g ≡ group neg (v % 128)) where
  pub first-last : limit ≤ 128 → v < limit → g ≡ get_or (encoded limit neg v) 0 0
  first-last m l =
      let k : v % 128 ≡ v = omega arith in
      e ∙ ap (group neg) k ∙ sym (ap (λ (r : List ℕ). get_or r 0 0) (encoded-last limit neg v l))

  pub first_more : 2 ≤ limit → limit ≤ v → v < 2 ^ 64 → 128 + g ≡ get_or (encoded limit neg v) 0 0
  first_more two l h = ap (λ (x : ℕ). 128 + x) e ∙ sym (ap (λ (r : List ℕ). get_or r 0 0) (encoded-more limit neg v two l h))

module _ (s : List ℕ) (i limit : ℕ) (neg : Bool) (w b : ℕ) (f : b ≡ get_or (encoded limit neg w) 0 0) where
  last_byte : w < limit → encoded limit neg w ≡ b ∷ []
  last_byte l = let e = encoded-last limit neg w l in e ∙ ap (λ (x : ℕ). x ∷ []) (sym (f ∙ ap (λ (r : List ℕ). get_or r 0 0) e))

  pub compared-last : {p : Place} → w < limit → p ≡ standing i (drop i s) (b ∷ []) → p ≡ standing i (drop i s) (encoded limit neg w)
  compared-last l e = e ∙ ap (standing i (drop i s)) (sym (last_byte l))

  module _ (two : 2 ≤ limit) (l : limit ≤ w) (h : w < 2 ^ 64) where
    more_bytes : encoded limit neg w ≡ b ∷ encoded limit neg (w / 128)
    more_bytes =
        let e = encoded-more limit neg w two l h in
        e ∙ ap (λ (x : ℕ). x ∷ encoded limit neg (w / 128)) (sym (f ∙ ap (λ (r : List ℕ). get_or r 0 0) e))

    pub compared-on : (next : ℕ) → standing i (drop i s) (b ∷ []) ≡ behind next
        → standing i (drop i s) (encoded limit neg w) ≡ standing next (drop next s) (encoded limit neg (w / 128))
    compared-on next e =
        let q = standing_on i next (drop i s) (b ∷ []) (encoded limit neg (w / 128)) e in
        ap (standing i (drop i s)) more_bytes ∙ q.2
        ∙ ap (λ (r : List ℕ). standing next r (encoded limit neg (w / 128))) (drop-drop 1 i s ∙ ap (λ (j : ℕ). drop j s) (sym q.1))

    pub compared-off : (place : ℕ) → standing i (drop i s) (b ∷ []) ≡ differs place → standing i (drop i s) (encoded limit neg w) ≡ differs place
    compared-off place e = ap (standing i (drop i s)) more_bytes ∙ standing-off i place (drop i s) (b ∷ []) (encoded limit neg (w / 128)) e
