-- The loop of `number_bytes`. Behind n bytes of a number all there are, x, are n and those from i on. A turn keeps that (`next`), and each way out reads the result off it
-- (`final`, `tenth`, `none`). Assumes nothing.
use Prim.Native.Nat.{ℕ, ◌+◌, ◌≤◌, ◌<◌}
use mathlib.Core.Path.{◌≡◌, refl, sym, ◌∙◌}
use mathlib.Core.List.{List}
use native.Mathlib.Numerals.{add-one}
use native.Mathlib.Omega.{arith}
use lib.ListN.{length, get_or, drop, drop_of_length-le}
use lib.Seq.{drop-cons}
use borrow.Author.Tests.{lt-ltb, le-ltb, eq-eqb, ne_eqb}
use Rattle.reason.specs.Reason.{number_bytes}

module _ (s : List ℕ) (x n i : ℕ) (inv : x ≡ n + number_bytes n (drop i s)) where
  pub final : i < length s → get_or s i 0 < 128 → n + 1 ≡ x
  unfolding number_bytes
  final h b = sym (inv ∙ rw (drop-cons s i 0 h, lt-ltb _ _ b) refl)

  pub tenth : i < length s → 128 ≤ get_or s i 0 → n ≡ 9 → 10 ≡ x
  unfolding number_bytes
  tenth h b e = sym (inv ∙ rw (drop-cons s i 0 h, le-ltb _ _ b, eq-eqb _ _ e) (omega arith))

  pub next : i < length s → 128 ≤ get_or s i 0 → (n ≡ 9 → ⊥) → x ≡ n + 1 + number_bytes (n + 1) (drop (i + 1) s)
  unfolding number_bytes
  next h b e = inv ∙ rw (add-one i, add-one n, drop-cons s i 0 h, le-ltb _ _ b, ne_eqb _ _ e) (omega arith)

  pub none : length s ≤ i → n ≡ x
  unfolding number_bytes
  none h = sym (inv ∙ rw (drop_of_length-le s h) (omega arith))
