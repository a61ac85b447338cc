-- Laws of reading a column a reading at a time, over any state: run-length, delta and boolean columns are three cases. A step that draws what
-- is to come (`Draws`) says it call by call, and then the ending for ever (`says`). A step goes into the next run where none of the present
-- one is left, again and again; how many it may enter does not matter (`ready-none`). Assumes nothing.
use Prim.Native.Nat.{ℕ, zero, suc, ◌<◌}
use mathlib.Core.Path.{◌≡◌, refl, sym, ◌∙◌, ap, subst}
use mathlib.Core.List.{List, [], ◌∷◌}
use mathlib.Core.Bool.{Bool, true, false, cond}
use native.Mathlib.Omega.{arith}
use lib.Dec.{eqb}
use borrow.Author.Tests.{eqb-false, eq-eqb, ne_eqb}
use Rattle.encoding.specs.Walk.{Trace, Next, over, on, off, before, after}
use Rattle.cursor.specs.Steps.{Stepped, ends, gives, behind, calls, said, say_at, nth, onto, ready, drawn}

-- what a step gives, each thing given being some readings, before what is to come behind it
abbrev pub follows : {R X S : Type 0} → (R → List X) → (S → Trace X) → Stepped R S → Trace X
follows spread coming (ends e) = record { readings = []; ending = e }
follows spread coming (gives r d) = before (spread r) (coming d)

abbrev pub only : {R : Type 0} → R → List R
only r = r ∷ []

-- at every state a step gives the first of what is to come there
abbrev pub Draws : {R X S : Type 0} → (R → List X) → (S → Stepped R S) → (S → Trace X) → Type 0
Draws {S = S} spread step coming = (c : S) → coming c ≡ follows spread coming (step c)

module _ {R S : Type 0} (step : S → Stepped R S) (coming : S → Trace R) (D : Draws only step coming) where
  say-first : (x : Stepped R S) → nth (follows only coming x) 0 ≡ said x
  unfolding nth say_at said
  say-first (ends e) = refl
  say-first (gives r d) = refl

  say-later : (c : S) (n : ℕ) (x : Stepped R S) → coming c ≡ follows only coming x → nth (coming c) (suc n) ≡ nth (coming (behind c x)) n
  unfolding nth say_at behind
  say-later c n (ends e) h = ap (λ (t : Trace R). nth t (suc n)) h ∙ sym (ap (λ (t : Trace R). nth t n) h)
  say-later c n (gives r d) h = ap (λ (t : Trace R). nth t (suc n)) h

  -- THE LAW: from any state the calls say what is to come, reading by reading, and then the ending, however often asked
  pub says : (n : ℕ) (c : S) → said (step (calls step n c)) ≡ nth (coming c) n
  unfolding calls
  says zero c = sym (ap (λ (t : Trace R). nth t 0) (D c) ∙ say-first (step c))
  says (suc n) c = says n (behind c (step c)) ∙ sym (say-later c n (step c) (D c))

-- ---- a step that goes into the next run where none of the present one is left

-- how many are left, the next run, and how much there is to read, which falls
pub record Entering (S : Type 0) : Type 0 where
  pub left : S → ℕ
  pub enter : S → Next S
  pub size : S → ℕ
  pub falls : (c d : S) → enter c ≡ on d → size d < size c

-- it holds behind the step, where that gives
abbrev pub Holds : {R S : Type 0} → (S → Type 0) → Stepped R S → Type 0
Holds P (ends e) = Unit {0}
Holds P (gives r d) = P d

pub holds_by : {R S : Type 0} {P Q : S → Type 0} → ((d : S) → P d → Q d) → (x : Stepped R S) → Holds P x → Holds Q x
holds_by f (ends e) h = tt
holds_by f (gives r d) h = f d h

module _ {S : Type 0} (M : Entering S) where
  abbrev ready_in : ℕ → S → Next S
  ready_in f c = ready M.left M.enter f c

  abbrev pub ready_from : S → Next S
  ready_from c = ready M.left M.enter (suc (M.size c)) c

  fuel : (f g : ℕ) (c : S) → M.size c < f → M.size c < g → ready_in f c ≡ ready_in g c
  unfolding ready
  fuel zero g c hf hg = absurd (omega arith)
  fuel (suc f) zero c hf hg = absurd (omega arith)
  fuel (suc f) (suc g) c hf hg =
      ap (λ (x : Next S). cond (eqb (M.left c) 0) x (on c)) (go (M.enter c) refl (λ d h k. fuel f g d h k))
    where
      go : (x : Next S) → M.enter c ≡ x → ((d : S) → M.size d < f → M.size d < g → ready_in f d ≡ ready_in g d)
          → onto x (λ d. ready_in f d) ≡ onto x (λ d. ready_in g d)
      go over e ih = refl
      go (on d) e ih = let l = M.falls c d e in ih d (omega arith) (omega arith)
      go (off number place) e ih = refl

  -- some left: it is ready
  pub ready-some : (c : S) → 0 < M.left c → ready_from c ≡ on c
  unfolding ready
  ready-some c l = ap (λ (b : Bool). cond b (onto (M.enter c) (λ d. ready_in (M.size c) d)) (on c)) (ne_eqb (M.left c) 0 (λ e. omega arith))

  -- none left: the next run, and what is ready from there
  pub ready-none : (c : S) (x : Next S) → M.left c ≡ 0 → M.enter c ≡ x → ready_from c ≡ onto x ready_from
  unfolding ready
  ready-none c x z e =
      ap (λ (b : Bool). cond b (onto (M.enter c) (λ d. ready_in (M.size c) d)) (on c)) (eq-eqb (M.left c) 0 z)
      ∙ ap (λ (y : Next S). onto y (λ d. ready_in (M.size c) d)) e ∙ go x e
    where
      go : (x : Next S) → M.enter c ≡ x → onto x (λ d. ready_in (M.size c) d) ≡ onto x ready_from
      go over e = refl
      go (on d) e = let l = M.falls c d e in fuel (M.size c) (suc (M.size d)) d l (omega arith)
      go (off number place) e = refl

  module _ {R : Type 0} (one : S → Stepped R S) where
    -- what holds of a state holds behind each run that is entered; with a reading left, Q holds behind the reading: so it does behind a step
    module _ (P Q : S → Type 0) (enters : (c d : S) → P c → M.enter c ≡ on d → P d) (ones : (c : S) → P c → 0 < M.left c → Holds Q (one c)) where
      keeps-in : (f : ℕ) (c : S) → P c → Holds Q (drawn one (ready_in f c))
      unfolding ready
      keeps-in zero c p = tt
      keeps-in (suc f) c p = go (eqb (M.left c) 0) refl (λ d q. keeps-in f d q)
        where
          into : (x : Next S) → M.enter c ≡ x → ((d : S) → P d → Holds Q (drawn one (ready_in f d))) → Holds Q (drawn one (onto x (λ d. ready_in f d)))
          into over e ih = tt
          into (on d) e ih = ih d (enters c d p e)
          into (off number place) e ih = tt

          go : (b : Bool) → eqb (M.left c) 0 ≡ b → ((d : S) → P d → Holds Q (drawn one (ready_in f d)))
              → Holds Q (drawn one (cond b (onto (M.enter c) (λ d. ready_in f d)) (on c)))
          go true e ih = into (M.enter c) refl ih
          go false e ih = let n = eqb-false (M.left c) 0 e in ones c p (omega arith)

      pub keeps : (c : S) → P c → Holds Q (drawn one (ready_from c))
      keeps c p = keeps-in (suc (M.size c)) c p

    -- a step draws what is to come, where entering a run does, and one of a run
    module _ {X : Type 0} (spread : R → List X) (coming : S → Trace X)
        (enters : (c : S) → M.left c ≡ 0 → coming c ≡ after (M.enter c) coming)
        (ones : (c : S) → 0 < M.left c → coming c ≡ follows spread coming (one c)) where
      drawn-in : (f : ℕ) (c : S) → M.size c < f → coming c ≡ follows spread coming (drawn one (ready_from c))
      drawn-in zero c h = absurd (omega arith)
      drawn-in (suc f) c h = go (M.left c) refl (λ d l. drawn-in f d l)
        where
          into : (x : Next S) → M.enter c ≡ x → ((d : S) → M.size d < f → coming d ≡ follows spread coming (drawn one (ready_from d)))
              → after x coming ≡ follows spread coming (drawn one (onto x ready_from))
          into over e ih = refl
          into (on d) e ih = let l = M.falls c d e in ih d (omega arith)
          into (off number place) e ih = refl

          go : (k : ℕ) → M.left c ≡ k → ((d : S) → M.size d < f → coming d ≡ follows spread coming (drawn one (ready_from d)))
              → coming c ≡ follows spread coming (drawn one (ready_from c))
          go zero e ih = enters c e ∙ into (M.enter c) refl ih ∙ sym (ap (λ (x : Next S). follows spread coming (drawn one x)) (ready-none c (M.enter c) e refl))
          go (suc k) e ih =
              let l : 0 < M.left c = omega arith in
              ones c l ∙ sym (ap (λ (x : Next S). follows spread coming (drawn one x)) (ready-some c l))

      pub draws : Draws spread (λ c. drawn one (ready_from c)) coming
      draws c = drawn-in (suc (M.size c)) c (omega arith)

  -- what holds of a state holds of the one that is ready from there, of which some is left
  pub ready-has : (P : S → Type 0) → ((c d : S) → P c → M.enter c ≡ on d → P d) → (c d : S) → P c → ready_from c ≡ on d → P d × (0 < M.left d)
  ready-has P enters c d p e =
      subst (λ (x : Next S). Holds (λ d. P d × (0 < M.left d)) (drawn here x)) e
      (keeps here P (λ d. P d × (0 < M.left d)) enters (λ d p l. (p, l)) c p)
    where
      here : S → Stepped (Unit {0}) S
      here d = gives tt d
