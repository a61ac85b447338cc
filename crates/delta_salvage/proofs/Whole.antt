-- The column whose size a walk finds is the one that is written: the differences of the sums that survive are as many of those that were read, so our
-- writer takes them. Assumes nothing.
use Prim.Native.Nat.{ℕ, ◌<◌}
use mathlib.Core.Path.{◌≡◌, sym, ◌∙◌, ap}
use mathlib.Core.List.{List, map}
use mathlib.Core.Option.{Option}
use lib.IntN.{ℤ, pos}
use lib.ListN.{length, take, get_or}
use Rattle.leb128.specs.Answer.{done}
use Rattle.encoding.specs.Column.{value, trace}
use Rattle.encoding.specs.Slots.{slot_of, flag_of}
use Rattle.encoding.specs.Survivors.{survey_of, Surveyed}
use Rattle.encoding.specs.Writer.{column_bytes}
use Rattle.encoding.proofs.Surveying.{survey-readings}
use Rattle.delta_decoder.specs.Difference.{i64_e}
use Rattle.delta_decoder.specs.Sums.{delta_trace}
use Rattle.delta_decoder.proofs.Limits.{delta-limit}
use Rattle.delta_encoder.specs.Differences.{differences, delta_bytes, wide_at, delta_judged}
use Rattle.delta_encoder.proofs.Back.{delta-writable}
use Rattle.delta_encoder.proofs.Writing.{judged-narrow}
use Rattle.rewriting.specs.Rewritten.{rewritten, rewritten_as}
use Rattle.runs.specs.declared.Values.TheVariants as values
use Rattle.salvage.proofs.Slots.{slots-list, kept-good}
use Rattle.salvage.proofs.Summed.{sums-back}

module _ (s : List ℕ) where
  pub all-differences : (r : Surveyed) → r ≡ survey_of (delta_trace s) → rewritten_as values.Differences s r.readings ≡ delta_bytes (map value (delta_trace s).readings)
  unfolding rewritten rewritten_as delta_bytes delta_trace
  all-differences r e =
      ap (λ (n : ℕ). column_bytes i64_e (take n (map value (trace i64_e s).readings))) (survey-readings (delta_trace s) r e)
      ∙ ap (column_bytes i64_e) (sym (sums-back (pos 0) (trace i64_e s).readings (trace i64_e s).ending))

  -- what survives can be written: its differences were read
  pub kept-narrow : ((i : ℕ) → get_or s i 0 < 256)
      → let rs = (delta_trace s).readings in delta_judged (map (slot_of (pos 0)) rs) (map flag_of rs) ≡ done (length (map (slot_of (pos 0)) rs))
  kept-narrow B =
      let rs = (delta_trace s).readings in
      sym (judged-narrow (map (slot_of (pos 0)) rs) (map flag_of rs) _ (kept-good (pos 0) rs (delta-limit s))
      (ap (λ (l : List (Option ℤ)). wide_at 0 (differences (pos 0) l)) (slots-list (pos 0) rs) ∙ delta-writable s B))
