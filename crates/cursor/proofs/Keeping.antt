-- Laws of a state that the host keeps: the check of 24, and that the host's calls say what the calls of the state that it stands for say.
-- Assumes nothing.
use Prim.Native.Nat.{ℕ, zero, suc, ◌≤◌, ◌<◌}
use mathlib.Core.Path.{◌≡◌, refl, sym, ◌∙◌, ap}
use mathlib.Core.List.{List}
use mathlib.Core.Bool.{Bool, true, false, cond, ◌&&◌}
use lib.ListN.{length}
use lib.Dec.{eqb, leb}
use borrow.Author.Tests.{eqb-true, eq-eqb, ne_eqb, leb-true, le-leb, lt-leb}
use Rattle.encoding.specs.Walk.{fault}
use Rattle.encoding.specs.Column.{absent, present}
use Rattle.cursor.specs.Cursor.{same, literal}
use Rattle.cursor.specs.Steps.{Stepped, ends, gives, behind, calls, Said, said}
use Rattle.cursor.specs.Kept.{checked, sort_of, leaves, after}
use Rattle.cursor.proofs.Stepping.{Holds}

-- ---- the check

module _ {R S : Type 0} (len at : ℕ) (s : List ℕ) (x : Stepped R S) where
  pub checked-passes : len ≡ length s → at ≤ length s → checked len at s x ≡ x
  unfolding checked
  checked-passes e l = simp (eq-eqb len (length s) e, le-leb at (length s) l)

  pub checked-other : (len ≡ length s → ⊥) → checked len at s x ≡ ends (fault 24 0)
  unfolding checked
  checked-other n = simp (ne_eqb len (length s) n)

  pub checked-beyond : length s < at → checked len at s x ≡ ends (fault 24 0)
  unfolding checked
  checked-beyond l = simp (lt-leb at (length s) l) (go (eqb len (length s)))
    where
      go : (b : Bool) → cond (b && false) x (ends (fault 24 0)) ≡ ends (fault 24 0)
      go true = refl
      go false = refl

  -- what holds of the step where the check passes, and of the refusal, holds of the step that is checked
  pub checked-by : (P : Stepped R S → Type 0) → (len ≡ length s → at ≤ length s → P x) → P (ends (fault 24 0)) → P (checked len at s x)
  unfolding checked
  checked-by P f g = go (eqb len (length s)) (leb at (length s)) refl refl
    where
      go : (a b : Bool) → eqb len (length s) ≡ a → leb at (length s) ≡ b → P (cond (a && b) x (ends (fault 24 0)))
      go true true e l = f (eqb-true len (length s) e) (leb-true at (length s) l)
      go true false e l = g
      go false true e l = g
      go false false e l = g

-- ---- the sort of a run, by its number

module _ {A : Type 0} (n : ℕ) (a : A) (place : ℕ) where
  pub sort-absent : n ≡ 0 → sort_of n a place ≡ same absent
  unfolding sort_of
  sort-absent e = rw (eq-eqb n 0 e)

  pub sort-repeat : n ≡ 1 → sort_of n a place ≡ same (present a place)
  unfolding sort_of
  sort-repeat e = ap (λ (m : ℕ). sort_of m a place) e

  pub sort-literal : (n ≡ 0 → ⊥) → (n ≡ 1 → ⊥) → sort_of n a place ≡ literal
  unfolding sort_of
  sort-literal z o = rw (ne_eqb n 0 z, ne_eqb n 1 o)

-- ---- the calls

-- `keep c` is what the host keeps of a state c, `call` what a call makes of it, and `answer` what the call answers; P holds of the states that are
-- reached, and there a call is a step
module _ {R S K B : Type 0} (step : S → Stepped R S) (P : S → Type 0) (keep : S → K) (call : K → K) (answer : K → B) (told : Said R → B)
    (stays : (c : S) → P c → Holds P (step c))
    (leads : (c : S) → P c → call (keep c) ≡ leaves keep (keep c) (step c))
    (tells : (c : S) → P c → answer (keep c) ≡ told (said (step c))) where
  reached : (c : S) → P c → (x : Stepped R S) → Holds P x → P (behind c x)
  unfolding behind
  reached c p (ends e) h = p
  reached c p (gives r d) h = h

  leaves-behind : (c : S) (x : Stepped R S) → leaves keep (keep c) x ≡ keep (behind c x)
  unfolding leaves behind
  leaves-behind c (ends e) = refl
  leaves-behind c (gives r d) = refl

  -- THE LAW: the host's calls answer what the state's calls say
  pub answers : (n : ℕ) (c : S) → P c → answer (after call n (keep c)) ≡ told (said (step (calls step n c)))
  unfolding after calls
  answers zero c p = tells c p
  answers (suc n) c p =
      ap (λ (k : K). answer (after call n k)) (leads c p ∙ leaves-behind c (step c)) ∙ answers n (behind c (step c)) (reached c p (step c) (stays c p))
