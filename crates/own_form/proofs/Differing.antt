-- The place at which two strings of bytes differ: none exactly where they are the same; else what stands before it agrees, and there they differ or one of them
-- ends. Assumes nothing.
use Prim.Native.Nat.{ℕ, suc, ◌+◌, ◌≤◌}
use mathlib.Core.Logic.{◌⊎◌, inl, inr}
use mathlib.Core.Path.{◌≡◌, refl, sym, ◌∙◌, ap}
use mathlib.Core.List.{List, [], ◌∷◌, ◌++◌}
use mathlib.Core.Option.{none, some}
use mathlib.Core.Bool.{Bool, true, false, cond}
use native.Mathlib.Nat.{add-zero}
use native.Mathlib.Omega.{arith}
use lib.Dec.{eqb}
use lib.ListN.{length, take, get_or}
use borrow.Author.Tests.{eqb-true, eqb-false, eq-eqb}
use Rattle.own_form.specs.Difference.{differ_at}

pub same_none : (i : ℕ) (s : List ℕ) → differ_at i s s ≡ none
unfolding differ_at
same_none i [] = refl
same_none i (a ∷ s) = rw (eq-eqb a a refl) (same_none (suc i) s)

pub none-same : (i : ℕ) (s t : List ℕ) → differ_at i s t ≡ none → s ≡ t
unfolding differ_at
none-same i [] [] e = refl
none-same i [] (b ∷ t) e = let z : ◌≡◌ {A = ℕ} 0 1 = cc in absurd (omega arith)
none-same i (a ∷ s) [] e = let z : ◌≡◌ {A = ℕ} 0 1 = cc in absurd (omega arith)
none-same i (a ∷ s) (b ∷ t) e = go (eqb a b) refl e (none-same (suc i) s t)
  where
    go : (x : Bool) → eqb a b ≡ x → cond x (differ_at (suc i) s t) (some i) ≡ none → (differ_at (suc i) s t ≡ none → s ≡ t) → a ∷ s ≡ b ∷ t
    go true h k r = ap (λ (x : ℕ). x ∷ s) (eqb-true a b h) ∙ ap (λ (l : List ℕ). b ∷ l) (r k)
    go false h k r = let z : ◌≡◌ {A = ℕ} 0 1 = cc in absurd (omega arith)

-- n bytes in: so many agree; then one of the two ends, or they differ
pub record Parts (s t : List ℕ) (n : ℕ) : Type 0 where
  pub agree : take n s ≡ take n t
  pub within : (n ≤ length s) × (n ≤ length t)
  pub there : ((length s ≡ n) ⊎ (length t ≡ n)) ⊎ (get_or s n 0 ≡ get_or t n 0 → ⊥)

pub place-parts : (i : ℕ) (s t : List ℕ) (place : ℕ) → differ_at i s t ≡ some place → (n : ℕ) × (place ≡ i + n) × Parts s t n × (s ≡ t → ⊥)
unfolding differ_at
place-parts i [] [] place e = let z : ◌≡◌ {A = ℕ} 0 1 = cc in absurd (omega arith)
place-parts i [] (b ∷ t) place e =
    let k : i ≡ place = cc in (
      0,
      omega arith,
      record { agree = refl; within = (omega arith, omega arith); there = inl (inl refl) },
      λ h. let l = ap length h in omega (arith, l),
    )
place-parts i (a ∷ s) [] place e =
    let k : i ≡ place = cc in (
      0,
      omega arith,
      record { agree = refl; within = (omega arith, omega arith); there = inl (inr refl) },
      λ h. let l = ap length h in omega (arith, l),
    )
place-parts i (a ∷ s) (b ∷ t) place e = go (eqb a b) refl e (place-parts (suc i) s t place)
  where
    go : (x : Bool) → eqb a b ≡ x → cond x (differ_at (suc i) s t) (some i) ≡ some place
        → (differ_at (suc i) s t ≡ some place → (n : ℕ) × (place ≡ suc i + n) × Parts s t n × (s ≡ t → ⊥))
        → (n : ℕ) × (place ≡ i + n) × Parts (a ∷ s) (b ∷ t) n × (a ∷ s ≡ b ∷ t → ⊥)
    go true h k r =
        let q = r k in
        let w = q.2.within in
        let f : a ≡ b = eqb-true a b h in (
          suc q.0,
          omega (arith, q.1),
          record {
            agree = ap (λ (x : ℕ). x ∷ take q.0 s) f ∙ ap (λ (l : List ℕ). b ∷ l) q.2.agree;
            within = (omega (arith, w.0), omega (arith, w.1));
            there = later q.0 q.2.there;
          },
          λ z. q.3 (let y : s ≡ t = cc in y),
        )
      where
        later : (n : ℕ) → ((length s ≡ n) ⊎ (length t ≡ n)) ⊎ (get_or s n 0 ≡ get_or t n 0 → ⊥)
            → ((length (a ∷ s) ≡ suc n) ⊎ (length (b ∷ t) ≡ suc n)) ⊎ (get_or (a ∷ s) (suc n) 0 ≡ get_or (b ∷ t) (suc n) 0 → ⊥)
        later n (inl (inl x)) = inl (inl (ap suc x))
        later n (inl (inr x)) = inl (inr (ap suc x))
        later n (inr x) = inr x
    go false h k r =
        let p : i ≡ place = cc in
        let f = eqb-false a b h in (
          0,
          omega arith,
          record { agree = refl; within = (omega arith, omega arith); there = inr f },
          λ z. f (let y : a ≡ b = cc in y),
        )

-- ---- behind what both begin with, and where one does not begin with what the other does

take_none : (s : List ℕ) → take 0 s ≡ []
take_none [] = refl
take_none (a ∷ s) = refl

pub differ-after : (i : ℕ) (w s t : List ℕ) → differ_at i (w ++ s) (w ++ t) ≡ differ_at (i + length w) s t
unfolding differ_at
differ-after i [] s t = ap (λ (k : ℕ). differ_at k s t) (sym (add-zero i))
differ-after i (a ∷ w) s t =
    let k : suc i + length w ≡ i + suc (length w) = omega arith in
    rw (eq-eqb a a refl) (differ-after (suc i) w s t ∙ ap (λ (j : ℕ). differ_at j s t) k)

pub differ-front : (i : ℕ) (s u v : List ℕ) → (take (length u) s ≡ u → ⊥) → differ_at i s (u ++ v) ≡ differ_at i s u
unfolding differ_at
differ-front i s [] v h = absurd (h (take_none s))
differ-front i [] (b ∷ u) v h = refl
differ-front i (a ∷ s) (b ∷ u) v h = go (eqb a b) refl (differ-front (suc i) s u v)
  where
    go : (x : Bool) → eqb a b ≡ x → ((take (length u) s ≡ u → ⊥) → differ_at (suc i) s (u ++ v) ≡ differ_at (suc i) s u)
        → cond x (differ_at (suc i) s (u ++ v)) (some i) ≡ cond x (differ_at (suc i) s u) (some i)
    go true e r = r (λ z. h (ap (λ (x : ℕ). x ∷ take (length u) s) (eqb-true a b e) ∙ ap (λ (l : List ℕ). b ∷ l) z))
    go false e r = refl
