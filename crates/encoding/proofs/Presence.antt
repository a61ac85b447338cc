-- Presence bytes p from an index k on: one more byte, the first that differs, the end. Assumes nothing.
use Prim.Native.Nat.{ℕ, suc, ◌+◌, ◌≤◌, ◌<◌}
use mathlib.Core.Path.{◌≡◌, ◌∙◌, ap}
use mathlib.Core.List.{List}
use mathlib.Core.Option.{none, some}
use mathlib.Core.Bool.{true, false}
use native.Mathlib.Numerals.{add-one}
use native.Mathlib.Omega.{arith}
use lib.ListN.{length, get_or, drop, drop_of_length-le}
use lib.Seq.{drop-cons}
use borrow.Author.Tests.{le-leb, lt-leb, eq-eqb, ne_eqb}
use Rattle.encoding.specs.Given.{bad_flag}
use Rattle.encoding.specs.Flags.{zeros, any_flag}

module _ (p : List ℕ) (k : ℕ) where
  pub flag-good : k < length p → get_or p k 0 ≤ 1 → bad_flag k (drop k p) ≡ bad_flag (k + 1) (drop (k + 1) p)
  unfolding bad_flag
  flag-good l h = ap (bad_flag k) (drop-cons p k 0 l) ∙ simp (le-leb (get_or p k 0) 1 h, add-one)

  pub flag-bad : k < length p → 1 < get_or p k 0 → bad_flag k (drop k p) ≡ some k
  unfolding bad_flag
  flag-bad l h = ap (bad_flag k) (drop-cons p k 0 l) ∙ simp (lt-leb (get_or p k 0) 1 h)

  pub flag-end : length p ≤ k → bad_flag k (drop k p) ≡ none
  unfolding bad_flag
  flag-end l = ap (bad_flag k) (drop_of_length-le p l)

  pub any_none : k < length p → get_or p k 0 ≡ 0 → any_flag (drop k p) ≡ any_flag (drop (k + 1) p)
  unfolding any_flag
  any_none l h = ap any_flag (drop-cons p k 0 l) ∙ simp (eq-eqb (get_or p k 0) 0 h, add-one)

  pub any_some : k < length p → (get_or p k 0 ≡ 0 → ⊥) → any_flag (drop k p) ≡ true
  unfolding any_flag
  any_some l h = ap any_flag (drop-cons p k 0 l) ∙ simp (ne_eqb (get_or p k 0) 0 h)

  pub any-end : length p ≤ k → any_flag (drop k p) ≡ false
  unfolding any_flag
  any-end l = ap any_flag (drop_of_length-le p l)

  pub absent_more : k < length p → get_or p k 0 ≡ 0 → k + zeros (drop k p) ≡ k + 1 + zeros (drop (k + 1) p)
  unfolding zeros
  absent_more l h =
      let e : zeros (drop k p) ≡ suc (zeros (drop (k + 1) p)) = ap zeros (drop-cons p k 0 l) ∙ simp (eq-eqb (get_or p k 0) 0 h, add-one) in
      omega arith

  pub absent-stop : k < length p → (get_or p k 0 ≡ 0 → ⊥) → k + zeros (drop k p) ≡ k
  unfolding zeros
  absent-stop l h = let e : zeros (drop k p) ≡ 0 = ap zeros (drop-cons p k 0 l) ∙ simp (ne_eqb (get_or p k 0) 0 h) in omega arith

  pub absent-over : length p ≤ k → k + zeros (drop k p) ≡ k
  unfolding zeros
  absent-over l = let e : zeros (drop k p) ≡ 0 = ap zeros (drop_of_length-le p l) in omega arith
