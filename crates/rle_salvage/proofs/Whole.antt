-- The type is one that is served; and the column whose size a walk finds is the one that is written: the walk goes as far as readings survive. Assumes nothing.
use Prim.Native.Nat.{ℕ}
use mathlib.Core.Path.{◌≡◌, ap}
use mathlib.Core.Bool.{true}
use mathlib.Core.List.{List, map}
use mathlib.Core.Logic.{◌⊎◌, inl, inr}
use Rattle.column_specification.specs.Served.{integer_type}
use Rattle.encoding.specs.Column.{value, trace}
use Rattle.encoding.specs.Survivors.{survey_of, Surveyed}
use Rattle.encoding.specs.Writer.{column_bytes}
use Rattle.rle_decoder.specs.Word.{u64_e}
use Rattle.rewriting.specs.Rewritten.{rewritten, rewritten_as}
use Rattle.runs.specs.declared.Values.TheVariants as values
use Rattle.salvage.proofs.Answering.{of-actors, of_integers, all-values}

pub served : {t : ℕ} → ((t ≡ 1 → ⊥) × (t ≡ 2)) ⊎ (t ≡ 1) → integer_type t ≡ true
served (inl e) = of_integers _ e.0 e.1
served (inr e) = of-actors _ e

pub all_words : (s : List ℕ) (r : Surveyed) → r ≡ survey_of (trace u64_e s)
    → rewritten_as values.Words s r.readings ≡ column_bytes u64_e (map value (trace u64_e s).readings)
unfolding rewritten rewritten_as
all_words s r e = ap (column_bytes u64_e) (all-values (trace u64_e s) r e)
