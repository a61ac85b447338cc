-- The count of each kind of column is what its trace comes to. Assumes nothing.
use Prim.Native.Nat.{ℕ}
use mathlib.Core.Path.{◌≡◌, refl, sym, ap, ◌∙◌}
use mathlib.Core.List.{List}
use lib.ListN.{length-map}
use Rattle.encoding.specs.Column.{Reading, value, trace, values}
use Rattle.encoding.specs.Walk.{Trace, outcome_of, outcome}
use Rattle.rle_decoder.specs.Word.{u64_e}
use Rattle.delta_decoder.specs.Sums.{delta_trace}
use Rattle.boolean_decoder.specs.Turns.{bool_trace}
use Rattle.text.specs.Text.{text_e}
use Rattle.splice.specs.Kinds.{integer, delta, boolean, text}
use Rattle.splice.specs.Steps.{count_as}
use Rattle.splice.specs.declared.ColumnKind.{ColumnKind}
use Rattle.splice.specs.declared.ColumnKind.TheVariants as kind

-- what `count_as` is of each kind
module _ (c : List ℕ) {k : ColumnKind} where
  pub count-integer : k ≡ kind.Integer → outcome (trace u64_e c) ≡ count_as k c
  unfolding count_as
  count-integer e = rw e

  pub count-delta : k ≡ kind.Delta → outcome (delta_trace c) ≡ count_as k c
  unfolding count_as
  count-delta e = rw e

  pub count-boolean : k ≡ kind.Boolean → outcome (bool_trace c) ≡ count_as k c
  unfolding count_as
  count-boolean e = rw e

  pub count-text : k ≡ kind.Text → outcome (trace text_e c) ≡ count_as k c
  unfolding count_as
  count-text e = rw e

-- and of the kinds that edits are given
pub values-outcome : {A : Type 0} (t : Trace (Reading A)) → outcome (values t) ≡ outcome t
unfolding outcome
values-outcome t = ap (λ (n : ℕ). outcome_of n t.ending) (length-map t.readings value)

pub integer-counts : (c : List ℕ) → count_as integer.kind c ≡ outcome (integer.reads c)
integer-counts c = sym (count-integer c refl) ∙ sym (values-outcome (trace u64_e c))

pub delta-counts : (c : List ℕ) → count_as delta.kind c ≡ outcome (delta.reads c)
delta-counts c = sym (count-delta c refl) ∙ sym (values-outcome (delta_trace c))

pub boolean-counts : (c : List ℕ) → count_as boolean.kind c ≡ outcome (boolean.reads c)
boolean-counts c = sym (count-boolean c refl)

pub text-counts : (c : List ℕ) → count_as text.kind c ≡ outcome (text.reads c)
text-counts c = sym (count-text c refl) ∙ sym (values-outcome (trace text_e c))
