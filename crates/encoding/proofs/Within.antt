-- Which readings a stretch at an index covers: those of a repeated and of a literal one are present, those of an absent one absent. Over any element.
-- Assumes nothing.
use Prim.Native.Nat.{ℕ, zero, suc, ◌+◌, ◌-◌, ◌≤◌, ◌<◌}
use mathlib.Core.Path.{◌≡◌, refl, sym, ◌∙◌, ap}
use mathlib.Core.List.{List, [], ◌∷◌, ◌++◌, map}
use mathlib.Core.Option.{Option, none, some}
use mathlib.Core.Bool.{Bool, true, false, cond}
use native.Mathlib.Omega.{arith}
use lib.Dec.{eqb}
use lib.ListN.{length, get_or, drop, get_or-replicate, length-replicate, length-map, get_or-append}
use lib.Seq.{get_or-drop, slice, length-slice}
use borrow.Author.Tests.{eq-eqb, eqb-true}
use Rattle.encoding.specs.Ahead.{AllPresent, from, end_of, stretch_of, StretchAt}
use Rattle.encoding.specs.Given.{given, slot_list}
use Rattle.encoding.specs.Longest.{readings_in, readings_of}
use Rattle.encoding.specs.declared.StretchEnd.{StretchEnd}
use Rattle.encoding.specs.declared.StretchEnd.TheVariants as stretch
use Rattle.encoding.proofs.Cut.{cut-whole}

slot_at : {A : Type 0} (d : A) (v : List A) (p : List ℕ) (j : ℕ) → j < length v → length p ≡ length v
    → get_or (slot_list v p) j none ≡ given (get_or p j 0) (get_or v j d)
unfolding slot_list
slot_at d [] p j l e = absurd (omega arith)
slot_at d (x ∷ v) [] j l e = absurd (omega arith)
slot_at d (x ∷ v) (b ∷ p) zero l e = refl
slot_at d (x ∷ v) (b ∷ p) (suc j) l e = slot_at d v p j (omega arith) (omega arith)

values-there : {A : Type 0} (l : List A) (m : ℕ) → m < length l → get_or (map some l) m none ≡ none → ⊥
values-there [] m h e = absurd (omega arith)
values-there (a ∷ l) zero h e = let z : ◌≡◌ {A = ℕ} 0 1 = cc in omega arith
values-there (a ∷ l) (suc m) h e = values-there l m (omega arith) e

given-none : {A : Type 0} (b : ℕ) (x : A) → given b x ≡ none → b ≡ 0
given-none b x e = go (eqb b 0) refl e
  where
    go : (t : Bool) → eqb b 0 ≡ t → cond t none (some x) ≡ none → b ≡ 0
    go true h e = eqb-true b 0 h
    go false h e = let z : ◌≡◌ {A = ℕ} 0 1 = cc in absurd (omega arith)

module _ {A : Type 0} (same : A → A → Bool) (same-eq : (a b : A) → same a b ≡ true → a ≡ b) (same_self : (a : A) → same a a ≡ true)
    (d : A) (v : List A) (p : List ℕ) (even : length p ≡ length v) (i : ℕ) where
  -- the readings of the stretch stand at its indices
  covered : (x : StretchEnd) → StretchAt same d v p i x → drop i (slot_list v p) ≡ readings_in (stretch_of d v i x) ++ drop (end_of x) (slot_list v p)
  unfolding from readings_of
  covered x h =
      sym (cut-whole same same-eq same_self (drop i (slot_list v p)))
      ∙ ap readings_of h.cuts
      ∙ ap (λ (r : List (Option A)). readings_in (stretch_of d v i x) ++ r) (cut-whole same same-eq same_self (drop (end_of x) (slot_list v p)))

  covered-at : (x : StretchEnd) → StretchAt same d v p i x → length (readings_in (stretch_of d v i x)) ≡ end_of x - i
      → (j : ℕ) → i ≤ j → j < end_of x → given (get_or p j 0) (get_or v j d) ≡ get_or (readings_in (stretch_of d v i x)) (j - i) none
  covered-at x h n j f g =
      let w = h.within in
      let e : i + (j - i) ≡ j = omega arith in
      sym (slot_at d v p j (omega arith) even)
      ∙ ap (λ (k : ℕ). get_or (slot_list v p) k none) (sym e)
      ∙ sym (get_or-drop i (slot_list v p) (j - i) none)
      ∙ ap (λ (l : List (Option A)). get_or l (j - i) none) (covered x h)
      ∙ get_or-append (readings_in (stretch_of d v i x)) (drop (end_of x) (slot_list v p)) none (j - i) (omega arith)

  pub absent-here : {k : ℕ} → StretchAt same d v p i (stretch.Absent k) → (j : ℕ) → i ≤ j → j < k → get_or p j 0 ≡ 0
  unfolding readings_in
  absent-here {k} h j f g =
      given-none (get_or p j 0) (get_or v j d)
      (covered-at (stretch.Absent k) h (length-replicate (k - i) none) j f g ∙ get_or-replicate (k - i) (j - i) none none (omega arith))

  present-at : (x : StretchEnd) → StretchAt same d v p i x → length (readings_in (stretch_of d v i x)) ≡ end_of x - i
      → ((m : ℕ) → m < end_of x - i → get_or (readings_in (stretch_of d v i x)) m none ≡ none → ⊥) → AllPresent p i (end_of x)
  present-at x h n there j f g e =
      let z : none ≡ given (get_or p j 0) (get_or v j d) = rw (eq-eqb (get_or p j 0) 0 e) in
      there (j - i) (omega arith) (sym (z ∙ covered-at x h n j f g))

  pub repeat-present : {k : ℕ} → StretchAt same d v p i (stretch.Repeat k) → AllPresent p i k
  unfolding readings_in
  repeat-present {k} h =
      present-at (stretch.Repeat k) h (length-replicate (k - i) (some (get_or v i d)))
      (λ m l e. let z : some (get_or v i d) ≡ none = sym (get_or-replicate (k - i) m (some (get_or v i d)) none l) ∙ e in let y : ◌≡◌ {A = ℕ} 0 1 = cc in omega arith)

  pub literal-present : {k : ℕ} → StretchAt same d v p i (stretch.Literal k) → AllPresent p i k
  unfolding readings_in
  literal-present {k} h =
      let l = h.later in
      let w = h.within in
      let a = get_or v i d ∷ slice (i + 1) k v in
      let n : length a ≡ k - i = omega (arith, length-slice (i + 1) k v (omega arith)) in
      present-at (stretch.Literal k) h (length-map a some ∙ n) (λ m l e. values-there a m (omega arith) e)
