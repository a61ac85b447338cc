-- OUR FORM: yes for every list that our writer wrote, and only for bytes that are what it gives for the list they read as; over any kind of column. Assumes
-- nothing.
use Prim.Native.Nat.{ℕ}
use mathlib.Core.Path.{◌≡◌, refl, ◌∙◌, ap}
use mathlib.Core.List.{List}
use mathlib.Core.Option.{Option, none, some}
use native.Mathlib.Omega.{arith}
use Rattle.encoding.specs.Walk.{Ending, sound, fault, Trace}
use Rattle.own_form.specs.Difference.{differ_at}
use Rattle.own_form.specs.Form.{ours, compared, form_by, form_in}
use Rattle.own_form.proofs.Differing.{same_none, none-same}

module _ {R : Type 0} (read : List ℕ → Trace R) (write : List R → List ℕ) where
  -- bytes that read soundly as a list, and are what is written for it
  pub own-written : (s : List ℕ) → (read s).ending ≡ sound → write (read s).readings ≡ s → form_in read write s ≡ ours
  unfolding form_in form_by
  own-written s e w = rw e (ap (λ (l : List ℕ). compared (differ_at 0 s l)) w ∙ ap compared (same_none 0 s))

  -- and no others
  pub own-only : (s : List ℕ) → form_in read write s ≡ ours → ((read s).ending ≡ sound) × (s ≡ write (read s).readings)
  unfolding form_in form_by
  own-only s = go (read s).ending refl
    where
      by : (o : Option ℕ) → differ_at 0 s (write (read s).readings) ≡ o → compared o ≡ ours → s ≡ write (read s).readings
      by none h k = none-same 0 s (write (read s).readings) h
      by (some place) h k = let z : ◌≡◌ {A = ℕ} 0 1 = cc in absurd (omega arith)

      go : (x : Ending) → (read s).ending ≡ x → form_by x s (write (read s).readings) ≡ ours → ((read s).ending ≡ sound) × (s ≡ write (read s).readings)
      go sound h k = (h, by (differ_at 0 s (write (read s).readings)) refl k)
      go (fault number place) h k = let z : ◌≡◌ {A = ℕ} 0 1 = cc in absurd (omega arith)
