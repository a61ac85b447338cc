-- A column looked over: what its survey says of its form, over any kind of column. Assumes nothing.
use Prim.Native.Nat.{ℕ}
use mathlib.Core.Path.{◌≡◌, refl, sym, ◌∙◌, ap}
use mathlib.Core.List.{List}
use native.Mathlib.Omega.{arith}
use Rattle.std.specs.Prelude.{Some, None}
use Rattle.refusal.specs.Number as why
use Rattle.refusal.specs.declared.Refusal.{Refusal}
use Rattle.refusal.proofs.Numbered.{some}
use Rattle.encoding.specs.Survivors.{number_of, place_of, ending_of, surveyed, survey_of, Surveyed, seen}
use Rattle.encoding.specs.Walk.{Ending, sound, fault, Trace}
use Rattle.encoding.specs.declared.Survey.{Survey}
use Rattle.encoding.proofs.Faults.{Numbered}
use Rattle.own_form.specs.Difference.{differ_at}
use Rattle.own_form.specs.Form.{Form, refused, compared, form_by, form_in}

module _ {R : Type 0} (read : List ℕ → Trace R) (write : List R → List ℕ) (s : List ℕ) (r : Surveyed) (e : r ≡ survey_of (read s)) where
  -- no fault: what counts is where the bytes differ
  pub form-sound : {f : Form} → Numbered (read s).ending → r.number ≡ 0 → f ≡ compared (differ_at 0 s (write (read s).readings)) → f ≡ form_in read write s
  unfolding form_in form_by
  form-sound {f} h z k = go (read s).ending h (sym (ap (λ (r : Surveyed). r.number) e) ∙ z)
    where
      go : (x : Ending) → Numbered x → number_of x ≡ 0 → f ≡ form_by x s (write (read s).readings)
      go sound h z = k
      go (fault number place) h z = absurd (omega arith)

  -- a fault is the column's own
  pub form-fault : (r.number ≡ 0 → ⊥) → refused r.number r.place ≡ form_in read write s
  unfolding form_in form_by
  form-fault h = ap (λ (r : Surveyed). refused r.number r.place) e ∙ go (read s).ending (λ z. h (ap (λ (r : Surveyed). r.number) e ∙ z))
    where
      go : (x : Ending) → (number_of x ≡ 0 → ⊥) → refused (number_of x) (place_of x) ≡ form_by x s (write (read s).readings)
      go sound h = absurd (h refl)
      go (fault number place) h = refl

-- the same of a survey of the code
module _ {R : Type 0} (read : List ℕ → Trace R) (write : List R → List ℕ) (s : List ℕ) (r : Survey) (e : seen r ≡ survey_of (read s)) where
  pub form-none : {f : Form} → Numbered (read s).ending → r.fault ≡ None → f ≡ compared (differ_at 0 s (write (read s).readings)) → f ≡ form_in read write s
  form-none h z k = form-sound read write s (seen r) e h (ap (λ x. number_of (ending_of x)) z) k

  pub form-some : (f : Refusal) → r.fault ≡ Some f → refused (why.number_of f.0) f.1 ≡ form_in read write s
  form-some f z =
      let k = ap (λ x. surveyed r.readings (ending_of x)) z in
      form-fault read write s (surveyed r.readings (ending_of (Some f))) (sym k ∙ e) (some f.0)
