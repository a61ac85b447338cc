-- The reason of a column by its type: one law for each branch of the code. Assumes nothing.
use Prim.Native.Nat.{ℕ}
use mathlib.Core.Path.{◌≡◌, refl}
use mathlib.Core.List.{List}
use borrow.Author.Tests.{ne_eqb}
use Rattle.reason.specs.Columns.{answered, refused, column_reason}
use Rattle.reason.specs.Reason.{integer_reason, delta_reason, boolean_reason, text_reason}

module _ (t : ℕ) (s : List ℕ) where
  pub of-actors : t ≡ 1 → answered (integer_reason s) ≡ column_reason t s
  unfolding column_reason
  of-actors e = rw e refl

  pub of_integers : t ≡ 2 → answered (integer_reason s) ≡ column_reason t s
  unfolding column_reason
  of_integers e = rw e refl

  pub of_deltas : t ≡ 3 → answered (delta_reason s) ≡ column_reason t s
  unfolding column_reason
  of_deltas e = rw e refl

  pub of_booleans : t ≡ 4 → answered (boolean_reason s) ≡ column_reason t s
  unfolding column_reason
  of_booleans e = rw e refl

  pub of_names : t ≡ 5 → answered (text_reason s) ≡ column_reason t s
  unfolding column_reason
  of_names e = rw e refl

  pub of_others : (t ≡ 1 → ⊥) → (t ≡ 2 → ⊥) → (t ≡ 3 → ⊥) → (t ≡ 4 → ⊥) → (t ≡ 5 → ⊥) → refused 17 0 ≡ column_reason t s
  unfolding column_reason
  of_others a b c d e = rw (ne_eqb t 1 a, ne_eqb t 2 b, ne_eqb t 3 c, ne_eqb t 4 d, ne_eqb t 5 e) refl
