-- A column's form by its type's number. Assumes nothing.
use Prim.Native.Nat.{ℕ}
use mathlib.Core.Path.{◌≡◌, refl}
use mathlib.Core.List.{List, map}
use borrow.Author.Tests.{ne_eqb}
use Rattle.encoding.specs.Column.{value, trace}
use Rattle.encoding.specs.Writer.{column_bytes}
use Rattle.rle_decoder.specs.Word.{u64_e}
use Rattle.delta_decoder.specs.Sums.{delta_trace}
use Rattle.delta_encoder.specs.Differences.{delta_bytes}
use Rattle.boolean_decoder.specs.Turns.{bool_trace}
use Rattle.boolean_encoder.specs.Writer.{bool_bytes}
use Rattle.text.specs.Text.{text_e}
use Rattle.own_form.specs.Form.{refused, form_in, form_of}

module _ (t : ℕ) (s : List ℕ) where
  pub of-actors : t ≡ 1 → form_in (trace u64_e) (λ rs. column_bytes u64_e (map value rs)) s ≡ form_of t s
  unfolding form_of
  of-actors e = rw e refl

  pub of_integers : t ≡ 2 → form_in (trace u64_e) (λ rs. column_bytes u64_e (map value rs)) s ≡ form_of t s
  unfolding form_of
  of_integers e = rw e refl

  pub of_deltas : t ≡ 3 → form_in delta_trace (λ rs. delta_bytes (map value rs)) s ≡ form_of t s
  unfolding form_of
  of_deltas e = rw e refl

  pub of_booleans : t ≡ 4 → form_in bool_trace bool_bytes s ≡ form_of t s
  unfolding form_of
  of_booleans e = rw e refl

  pub of_names : t ≡ 5 → form_in (trace text_e) (λ rs. column_bytes text_e (map value rs)) s ≡ form_of t s
  unfolding form_of
  of_names e = rw e refl

  pub of_others : (t ≡ 1 → ⊥) → (t ≡ 2 → ⊥) → (t ≡ 3 → ⊥) → (t ≡ 4 → ⊥) → (t ≡ 5 → ⊥) → refused 17 0 ≡ form_of t s
  unfolding form_of
  of_others a b c d e = rw (ne_eqb t 1 a, ne_eqb t 2 b, ne_eqb t 3 c, ne_eqb t 4 d, ne_eqb t 5 e) refl
