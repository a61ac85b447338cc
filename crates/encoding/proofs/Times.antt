-- One reading some times in front of a list, as a walk over pieces sees it. Assumes nothing.
use Prim.Native.Nat.{ℕ, zero, suc, ◌+◌, ◌≤◌, ◌<◌}
use mathlib.Core.Path.{◌≡◌, refl, sym, ◌∙◌, ap}
use mathlib.Core.List.{List, [], ◌∷◌, ◌++◌, append_assoc}
use mathlib.Core.Option.{Option, none, some}
use mathlib.Core.Bool.{true, false}
use native.Mathlib.Omega.{arith}
use lib.ListN.{length, drop, replicate, length-append, length-replicate, replicate-append-replicate}
use lib.Seq.{drop_at}
use Rattle.encoding.specs.Writer.{any_present}

module _ {A : Type 0} where
  pub same_length : (m : ℕ) (x : A) (ys : List A) → length (replicate m x ++ ys) ≡ m + length ys
  same_length m x ys = length-append (replicate m x) ys ∙ ap (λ (k : ℕ). k + length ys) (length-replicate m x)

  pub same-behind : (m : ℕ) (x : A) (xs ys : List A) → xs ≡ replicate m x ++ ys → ys ≡ drop m xs
  same-behind m x xs ys e = sym (ap (drop m) e ∙ drop_at (replicate m x) ys m (length-replicate m x))

  pub same-within : (m : ℕ) (x : A) (xs ys : List A) → xs ≡ replicate m x ++ ys → m + length ys ≡ length xs
  same-within m x xs ys e = sym (ap length e ∙ same_length m x ys)

  -- a piece of which the reading is the same
  pub same_more : (m n : ℕ) (x y : A) (xs ys zs : List A) → xs ≡ replicate m x ++ (replicate n y ++ ys) → y ≡ x → zs ≡ ys
      → xs ≡ replicate (m + n) x ++ zs
  same_more m n x y xs ys zs e f g =
      e ∙ ap (λ (z : A). replicate m x ++ (replicate n z ++ ys)) f
      ∙ ap (λ (l : List A). replicate m x ++ (replicate n x ++ l)) (sym g)
      ∙ sym (append_assoc (replicate m x) (replicate n x) zs)
      ∙ ap (λ (l : List A). l ++ zs) (replicate-append-replicate m n x)

  pub same-counts : (m n : ℕ) (x y : A) (xs ys : List A) → xs ≡ replicate m x ++ (replicate n y ++ ys) → m + n ≤ length xs
  same-counts m n x y xs ys e = omega (arith, same-within m x xs (replicate n y ++ ys) e, same_length n y ys)

  -- what is behind a piece is shorter
  pub piece-less : (n : ℕ) (y : A) (ys zs : List A) → zs ≡ ys → 0 < n → length zs < length (replicate n y ++ ys)
  piece-less n y ys zs e l = omega (arith, ap length e, same_length n y ys)

  -- a piece is its first reading and what is behind it
  pub piece-first : (n : ℕ) (x y : A) (ys : List A) → 0 < n → y ≡ x → replicate n y ++ ys ≡ x ∷ drop 1 (replicate n y ++ ys)
  piece-first zero x y ys l e = absurd (omega arith)
  piece-first (suc n) x y ys l e = ap (λ (z : A). z ∷ (replicate n y ++ ys)) e

-- ---- is any of them present

pub any-behind : {A : Type 0} (m : ℕ) (ys : List (Option A)) → any_present (replicate m none ++ ys) ≡ any_present ys
unfolding any_present
any-behind zero ys = refl
any-behind (suc m) ys = any-behind m ys

pub any-first : {A : Type 0} {xs : List (Option A)} {a : A} {ys : List (Option A)} → xs ≡ some a ∷ ys → true ≡ any_present xs
unfolding any_present
any-first e = sym (ap any_present e)

pub any-over : {A : Type 0} {xs : List (Option A)} → xs ≡ [] → false ≡ any_present xs
unfolding any_present
any-over e = sym (ap any_present e)
