-- A delta column without a fault is in our form where the column of its differences is: its sums' differences are those that were read. Assumes nothing.
use Prim.Native.Nat.{ℕ}
use mathlib.Core.Path.{◌≡◌, refl, sym, ◌∙◌, ap}
use mathlib.Core.List.{List, [], ◌∷◌, map}
use mathlib.Core.Option.{Option, none, some}
use mathlib.Core.Bool.{Bool, true, false, cond}
use native.Mathlib.Omega.{arith}
use lib.IntN.{ℤ, pos, ◌+ℤ◌}
use Rattle.std.specs.Prelude.{None}
use Rattle.encoding.specs.Column.{Reading, absent, present, value, trace}
use Rattle.encoding.specs.Survivors.{number_of, ending_of, survey_of, Surveyed, seen}
use Rattle.encoding.specs.Walk.{Ending, sound, fault}
use Rattle.encoding.specs.Writer.{column_bytes}
use Rattle.encoding.specs.declared.Survey.{Survey}
use Rattle.encoding.proofs.Faults.{Numbered}
use Rattle.delta_decoder.specs.Difference.{i64_e, holds}
use Rattle.delta_decoder.specs.Sums.{held_sum, added, add_up, delta_trace}
use Rattle.delta_decoder.proofs.Faults.{delta-numbered}
use Rattle.delta_encoder.specs.Differences.{differences, delta_bytes}
use Rattle.delta_encoder.proofs.Back.{taken-off}
use Rattle.own_form.specs.Form.{Form, form_by, form_in}

-- differences of which all add up: they end soundly, and those of their sums are the same
all_up : (z : ℤ) (rs : List (Reading ℤ)) (e : Ending) → (add_up z rs e).ending ≡ sound
    → (e ≡ sound) × (differences z (map value (add_up z rs e).readings) ≡ map value rs)
unfolding add_up differences value added held_sum
all_up z [] e h = (h, refl)
all_up z (absent ∷ rs) e h = let w = all_up z rs e h in (w.0, ap (λ (l : List (Option ℤ)). none ∷ l) w.1)
all_up z (present d q ∷ rs) e h = go (holds (z +ℤ d)) h (all_up (z +ℤ d) rs e)
  where
    go : (t : Bool) → (added q (cond t (some (z +ℤ d)) none) (λ y. add_up y rs e)).ending ≡ sound
        → ((add_up (z +ℤ d) rs e).ending ≡ sound → (e ≡ sound) × (differences (z +ℤ d) (map value (add_up (z +ℤ d) rs e).readings) ≡ map value rs))
        → (e ≡ sound) × (differences z (map value (added q (cond t (some (z +ℤ d)) none) (λ y. add_up y rs e)).readings) ≡ some d ∷ map value rs)
    go true h k =
        let w = k h in (
          w.0,
          ap (λ (x : ℤ). some x ∷ differences (z +ℤ d) (map value (add_up (z +ℤ d) rs e).readings)) (taken-off z d)
              ∙ ap (λ (l : List (Option ℤ)). some d ∷ l) w.1,
        )
    go false h k = let y : ◌≡◌ {A = ℕ} 0 1 = cc in absurd (omega arith)

module _ (s : List ℕ) (r : Survey) (e : seen r ≡ survey_of (delta_trace s)) where
  -- a survey without a fault: both read soundly
  sums-sound : r.fault ≡ None → (delta_trace s).ending ≡ sound
  sums-sound z =
      go (delta_trace s).ending (delta-numbered s) (sym (ap (λ (r : Surveyed). r.number) e) ∙ ap (λ x. number_of (ending_of x)) z)
    where
      go : (x : Ending) → Numbered x → number_of x ≡ 0 → x ≡ sound
      go sound h z = refl
      go (fault number place) h z = absurd (omega arith)

  -- and what is said of the differences is said of the sums
  pub form-summed : {f : Form} → r.fault ≡ None → f ≡ form_in (trace i64_e) (λ rs. column_bytes i64_e (map value rs)) s
      → f ≡ form_in delta_trace (λ rs. delta_bytes (map value rs)) s
  unfolding form_in form_by delta_trace delta_bytes
  form-summed z k =
      let h : (add_up (pos 0) (trace i64_e s).readings (trace i64_e s).ending).ending ≡ sound = sums-sound z in
      let w = all_up (pos 0) (trace i64_e s).readings (trace i64_e s).ending h in
      k ∙ ap (λ (x : Ending). form_by x s (column_bytes i64_e (map value (trace i64_e s).readings))) (w.0 ∙ sym h)
      ∙ ap (λ (l : List (Option ℤ)). form_by (add_up (pos 0) (trace i64_e s).readings (trace i64_e s).ending).ending s (column_bytes i64_e l)) (sym w.1)
