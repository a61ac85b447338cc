-- Laws of looking over a column for what survives of it: what is owed while it is walked, over any machine; and what the survey says of the column's
-- outcome. Assumes nothing.
use Prim.Native.Nat.{ℕ, ◌+◌}
use mathlib.Core.Path.{◌≡◌, refl, sym, ◌∙◌, ap}
use mathlib.Core.List.{[], ◌++◌}
use native.Mathlib.Omega.{arith}
use lib.ListN.{length, length-append}
use Rattle.std.specs.Prelude.{Some, None}
use Rattle.refusal.specs.Number as why
use Rattle.refusal.specs.declared.Refusal.{Refusal}
use Rattle.refusal.proofs.Numbered.{some}
use Rattle.leb128.specs.Answer.{done, refused}
use Rattle.encoding.specs.Walk.{Ending, sound, fault, Next, over, on, off, Trace, after, outcome_of, outcome}
use Rattle.encoding.specs.Survivors.{surveyed, survey_of, surviving, Surveyed, number_of, ending_of, seen}
use Rattle.encoding.specs.declared.Survey.{Survey}
use Rattle.encoding.proofs.Faults.{Numbered}
use Rattle.encoding.proofs.Walking.{Machine, rest, rest-is}

-- ---- while a column is walked: the survey of all of it, the readings before this state counted

unfoldable pub surveys : {R S : Type 0} → Machine R S → S → Surveyed
surveys M st = surveyed (M.had st + length (rest M st).readings) (rest M st).ending

module _ {R S : Type 0} (M : Machine R S) where
  pub surveys-start : (st : S) → M.had st ≡ 0 → survey_of (rest M st) ≡ surveys M st
  unfolding surveys
  surveys-start st e =
      let k : length (rest M st).readings ≡ M.had st + length (rest M st).readings = omega arith in
      ap (λ (n : ℕ). surveyed n (rest M st).ending) k

  surveys-is : (st : S) (x : Next S) → (M.run st).next ≡ x
      → surveys M st ≡ surveyed (M.had st + length (M.run st).readings + length (after x (rest M)).readings) (after x (rest M)).ending
  unfolding surveys
  surveys-is st x e =
      let t : Trace R = after x (rest M) in
      let k : M.had st + length ((M.run st).readings ++ t.readings) ≡ M.had st + length (M.run st).readings + length t.readings = omega (arith, length-append (M.run st).readings t.readings) in
      ap (λ (t : Trace R). surveyed (M.had st + length t.readings) t.ending) (rest-is M st x e) ∙ ap (λ (n : ℕ). surveyed n t.ending) k

  pub surveys-on : (st z : S) → (M.run st).next ≡ on z → surveys M st ≡ surveys M z
  unfolding surveys
  surveys-on st z e = surveys-is st (on z) e ∙ ap (λ (n : ℕ). surveyed (n + length (rest M z).readings) (rest M z).ending) (sym (M.counts st z e))

  -- n readings of the run that has the fault
  pub surveys-off : (st : S) (n number place : ℕ) → (M.run st).next ≡ off number place → n ≡ length (M.run st).readings
      → surveys M st ≡ surveyed (M.had st + n) (fault number place)
  surveys-off st n number place e r =
      let k : M.had st + length (M.run st).readings + 0 ≡ M.had st + n = omega arith in
      surveys-is st (off number place) e ∙ ap (λ (n : ℕ). surveyed n (fault number place)) k

  pub surveys-over : (st : S) → (M.run st).next ≡ over → (M.run st).readings ≡ [] → surveys M st ≡ surveyed (M.had st) sound
  surveys-over st e r =
      let k : M.had st + length (M.run st).readings + 0 ≡ M.had st = omega (arith, ap length r) in
      surveys-is st over e ∙ ap (λ (n : ℕ). surveyed n sound) k

-- ---- what the survey says of the outcome

module _ {R : Type 0} (t : Trace R) (r : Surveyed) (e : r ≡ survey_of t) where
  number_is : r.number ≡ (survey_of t).number
  number_is = ap (λ (r : Surveyed). r.number) e

  pub survey-readings : r.readings ≡ length t.readings
  survey-readings = ap (λ (r : Surveyed). r.readings) e

  pub survey-sound : Numbered t.ending → r.number ≡ 0 → done r.readings ≡ outcome t
  unfolding outcome outcome_of
  survey-sound h z = go t.ending h (sym number_is ∙ z)
    where
      go : (x : Ending) → Numbered x → (surveyed (length t.readings) x).number ≡ 0 → done r.readings ≡ outcome_of (length t.readings) x
      go sound h z = ap done survey-readings
      go (fault number place) h z = absurd (omega arith)

  pub survey-fault : (r.number ≡ 0 → ⊥) → refused r.number r.place ≡ outcome t
  unfolding outcome outcome_of
  survey-fault h = ap (λ (s : Surveyed). refused s.number s.place) e ∙ go t.ending (λ z. h (number_is ∙ z))
    where
      go : (x : Ending) → ((surveyed (length t.readings) x).number ≡ 0 → ⊥)
          → refused (surveyed (length t.readings) x).number (surveyed (length t.readings) x).place ≡ outcome_of (length t.readings) x
      go sound h = absurd (h refl)
      go (fault number place) h = refl

  -- the survivors alone: so many, and no fault
  pub survivors : outcome (surviving t) ≡ done r.readings
  unfolding outcome outcome_of
  survivors = ap done (sym survey-readings)

-- ---- and what a survey of the code says of it

module _ {R : Type 0} (t : Trace R) (r : Survey) (e : seen r ≡ survey_of t) where
  pub survey-none : Numbered t.ending → r.fault ≡ None → done r.readings ≡ outcome t
  survey-none h z = survey-sound t (seen r) e h (ap (λ f. number_of (ending_of f)) z)

  pub survey-some : (f : Refusal) → r.fault ≡ Some f → refused (why.number_of f.0) f.1 ≡ outcome t
  survey-some f z =
      let k = ap (λ f. surveyed r.readings (ending_of f)) z in
      survey-fault t (surveyed r.readings (ending_of (Some f))) (sym k ∙ e) (some f.0)
