-- The writer's cut stands for the list (`cut-whole`), its stretches are longest (`cut-longest`), and it is the only such cut (`cut-only`,
-- `cut-one`). `cut-beside`: readings directly beside one another across a border of two stretches differ. Assumes nothing.
use Prim.Native.Nat.{ℕ, zero, suc}
use mathlib.Core.Path.{◌≡◌, refl, sym, ◌∙◌, ap, subst}
use mathlib.Core.List.{List, [], ◌∷◌, ◌++◌, map, get_last?}
use mathlib.Core.Option.{Option, none, some}
use mathlib.Core.Bool.{Bool, true, false, cond, true≢false}
use native.Mathlib.Omega.{arith}
use lib.ListN.{replicate}
use Rattle.encoding.specs.Stretches.{Stretch, literal_of, join_none, join_some, stretches}
use Rattle.encoding.specs.Longest.{readings_in, readings_of, Unlike, Unpaired, NoLiteral, Longest}

module _ {A : Type 0} where
  -- ---- an absent reading in front of a cut

  absent-present : (b : A) → none ≡ some b → ⊥
  absent-present b e = let z : ◌≡◌ {A = ℕ} 0 1 = cc in omega arith

  whole-none : (r : List (Stretch A)) → readings_of (join_none r) ≡ none ∷ readings_of r
  unfolding join_none readings_of readings_in
  whole-none [] = refl
  whole-none (Stretch.absent n ∷ r) = refl
  whole-none (Stretch.repeat n b ∷ r) = refl
  whole-none (Stretch.literal b bs ∷ r) = refl

  longest-none : (r : List (Stretch A)) → Longest r → Longest (join_none r)
  unfolding join_none readings_of readings_in
  longest-none [] h = (omega arith, tt, tt)
  longest-none (Stretch.absent n ∷ r) h = (omega arith, h.1, h.2)
  longest-none (Stretch.repeat zero b ∷ r) h = absurd (omega arith)
  longest-none (Stretch.repeat (suc n) b ∷ r) h = (omega arith, absent-present b, h)
  longest-none (Stretch.literal b bs ∷ r) h = (omega arith, absent-present b, h)

  -- where no absent reading follows it, it is a stretch of its own
  absent-first : (r : List (Stretch A)) → Longest r → Unlike none (readings_of r) → join_none r ≡ Stretch.absent 1 ∷ r
  unfolding join_none readings_of readings_in
  absent-first [] h u = refl
  absent-first (Stretch.absent zero ∷ r) h u = absurd (omega arith)
  absent-first (Stretch.absent (suc n) ∷ r) h u = absurd (u refl)
  absent-first (Stretch.repeat n b ∷ r) h u = refl
  absent-first (Stretch.literal b bs ∷ r) h u = refl

  -- ---- what joining a literal stretch's first value to the value before it leaves of the stretch

  whole-rest : (bs : List A) (r : List (Stretch A)) → readings_of (literal_of bs r) ≡ map some bs ++ readings_of r
  unfolding literal_of readings_of readings_in
  whole-rest [] r = refl
  whole-rest (b ∷ bs) r = refl

  longest-rest : (b : A) (bs : List A) (r : List (Stretch A)) → Longest (Stretch.literal b bs ∷ r) → Longest (literal_of bs r)
  unfolding literal_of
  longest-rest b [] r h = h.2
  longest-rest b (c ∷ cs) r h = (h.0.1, h.1, h.2)

  unlike-rest : (b : A) (bs : List A) (r : List (Stretch A)) → Longest (Stretch.literal b bs ∷ r) → Unlike (some b) (readings_of (literal_of bs r))
  unfolding literal_of readings_of readings_in
  unlike-rest b [] r h = h.0.0
  unlike-rest b (c ∷ cs) r h = h.0.0

module _ {A : Type 0} (same : A → A → Bool) (same-eq : (a b : A) → same a b ≡ true → a ≡ b) (same_self : (a : A) → same a a ≡ true) where
  -- ---- a value in front of a cut

  not_same : (a b : A) → same a b ≡ false → some a ≡ some b → ⊥
  not_same a b e p = let q : a ≡ b = cc in true≢false (sym (same_self a) ∙ ap (same a) q ∙ e)

  same_not : (a b : A) → (some a ≡ some b → ⊥) → same a b ≡ false
  same_not a b h = go (same a b) refl
    where
      go : (t : Bool) → same a b ≡ t → t ≡ false
      go true e = absurd (h (ap some (same-eq a b e)))
      go false e = refl

  whole-some : (a : A) (r : List (Stretch A)) → readings_of (join_some same a r) ≡ some a ∷ readings_of r
  unfolding join_some readings_of readings_in
  whole-some a [] = refl
  whole-some a (Stretch.absent n ∷ r) = refl
  whole-some a (Stretch.repeat n b ∷ r) = go (same a b) refl
    where
      go : (t : Bool) → same a b ≡ t → readings_of (cond t (Stretch.repeat (suc n) b ∷ r) (Stretch.literal a [] ∷ Stretch.repeat n b ∷ r)) ≡ some a ∷ readings_of (Stretch.repeat n b ∷ r)
      go true e = cc (same-eq a b e)
      go false e = refl
  whole-some a (Stretch.literal b bs ∷ r) = go (same a b) refl
    where
      go : (t : Bool) → same a b ≡ t → readings_of (cond t (Stretch.repeat 2 b ∷ literal_of bs r) (Stretch.literal a (b ∷ bs) ∷ r)) ≡ some a ∷ readings_of (Stretch.literal b bs ∷ r)
      go true e = cc (same-eq a b e, whole-rest bs r)
      go false e = refl

  longest-some : (a : A) (r : List (Stretch A)) → Longest r → Longest (join_some same a r)
  unfolding join_some readings_of readings_in
  longest-some a [] h = ((tt, tt), tt, tt)
  longest-some a (Stretch.absent zero ∷ r) h = absurd (omega arith)
  longest-some a (Stretch.absent (suc n) ∷ r) h = ((λ e. absent-present a (sym e), tt), tt, h)
  longest-some a (Stretch.repeat zero b ∷ r) h = absurd (omega arith)
  longest-some a (Stretch.repeat (suc n) b ∷ r) h = go (same a b) refl
    where
      go : (t : Bool) → same a b ≡ t → Longest (cond t (Stretch.repeat (suc (suc n)) b ∷ r) (Stretch.literal a [] ∷ Stretch.repeat (suc n) b ∷ r))
      go true e = (omega arith, h.1, h.2)
      go false e = ((not_same a b e, tt), tt, h)
  longest-some a (Stretch.literal b bs ∷ r) h = go (same a b) refl
    where
      go : (t : Bool) → same a b ≡ t → Longest (cond t (Stretch.repeat 2 b ∷ literal_of bs r) (Stretch.literal a (b ∷ bs) ∷ r))
      go true e = (omega arith, unlike-rest b bs r h, longest-rest b bs r h)
      go false e = ((not_same a b e, h.0), h.1, h.2)

  -- where it does not follow itself it begins a literal stretch: one with the literal that follows, or one of its own
  literal-first : (a : A) (r : List (Stretch A)) → Longest r → Unlike (some a) (readings_of r)
      → (bs : List A) × (t : List (Stretch A)) × (join_some same a r ≡ Stretch.literal a bs ∷ t) × (literal_of bs t ≡ r)
  unfolding join_some literal_of readings_of readings_in
  literal-first a [] h u = ([], [], refl, refl)
  literal-first a (Stretch.absent n ∷ r) h u = ([], Stretch.absent n ∷ r, refl, refl)
  literal-first a (Stretch.repeat zero b ∷ r) h u = absurd (omega arith)
  literal-first a (Stretch.repeat (suc n) b ∷ r) h u = ([], Stretch.repeat (suc n) b ∷ r, rw (same_not a b u), refl)
  literal-first a (Stretch.literal b bs ∷ r) h u = (b ∷ bs, r, rw (same_not a b u), refl)

  literal-last : (a : A) (r : List (Stretch A)) → Longest r → Unlike (some a) (readings_of r) → NoLiteral r → join_some same a r ≡ Stretch.literal a [] ∷ r
  unfolding join_some readings_of readings_in
  literal-last a [] h u k = refl
  literal-last a (Stretch.absent n ∷ r) h u k = refl
  literal-last a (Stretch.repeat zero b ∷ r) h u k = absurd (omega arith)
  literal-last a (Stretch.repeat (suc n) b ∷ r) h u k = rw (same_not a b u)
  literal-last a (Stretch.literal b bs ∷ r) h u k = absurd k

  -- ---- THE WRITER'S CUT stands for the list, and its stretches are longest

  pub cut-whole : (xs : List (Option A)) → readings_of (stretches same xs) ≡ xs
  unfolding stretches readings_of
  cut-whole [] = refl
  cut-whole (none ∷ xs) = whole-none (stretches same xs) ∙ ap (λ (l : List (Option A)). none ∷ l) (cut-whole xs)
  cut-whole (some a ∷ xs) = whole-some a (stretches same xs) ∙ ap (λ (l : List (Option A)). some a ∷ l) (cut-whole xs)

  pub cut-longest : (xs : List (Option A)) → Longest (stretches same xs)
  unfolding stretches
  cut-longest [] = tt
  cut-longest (none ∷ xs) = longest-none (stretches same xs) (cut-longest xs)
  cut-longest (some a ∷ xs) = longest-some a (stretches same xs) (cut-longest xs)

  -- ---- the readings of one stretch in front of a list whose cut is r

  module _ (xs : List (Option A)) (r : List (Stretch A)) (e : stretches same xs ≡ r) (h : Longest r) where
    absent-back : Unlike none (readings_of r) → (n : ℕ) → stretches same (replicate (suc n) none ++ xs) ≡ Stretch.absent (suc n) ∷ r
    unfolding stretches join_none
    absent-back u zero = ap join_none e ∙ absent-first r h u
    absent-back u (suc n) = ap join_none (absent-back u n)

    run-back : (a : A) → Unlike (some a) (readings_of r) → (n : ℕ) → stretches same (replicate (suc (suc n)) (some a) ++ xs) ≡ Stretch.repeat (suc (suc n)) a ∷ r
    unfolding stretches join_some
    run-back a u zero =
        let f = literal-first a r h u in
        ap (λ (l : List (Stretch A)). join_some same a (join_some same a l)) e
        ∙ ap (join_some same a) f.2
        ∙ rw (same_self a) (ap (λ (l : List (Stretch A)). Stretch.repeat 2 a ∷ l) f.3)
    run-back a u (suc n) = ap (join_some same a) (run-back a u n) ∙ rw (same_self a)

    literal-back : NoLiteral r → (a : A) (more : List A) → Unpaired (a ∷ more) (readings_of r) → stretches same (map some (a ∷ more) ++ xs) ≡ Stretch.literal a more ∷ r
    unfolding stretches join_some
    literal-back k a [] s = ap (join_some same a) e ∙ literal-last a r h s.0 k
    literal-back k a (b ∷ more) s = ap (join_some same a) (literal-back k b more s.1) ∙ rw (same_not a b s.0)

  -- ---- NO OTHER CUT of a list has longest stretches

  pub cut-only : (ss : List (Stretch A)) → Longest ss → stretches same (readings_of ss) ≡ ss
  unfolding stretches readings_of readings_in
  cut-only [] h = refl
  cut-only (Stretch.absent zero ∷ r) h = absurd (omega arith)
  cut-only (Stretch.absent (suc n) ∷ r) h = absent-back (readings_of r) r (cut-only r h.2) h.2 h.1 n
  cut-only (Stretch.repeat zero a ∷ r) h = absurd (omega arith)
  cut-only (Stretch.repeat (suc zero) a ∷ r) h = absurd (omega arith)
  cut-only (Stretch.repeat (suc (suc n)) a ∷ r) h = run-back (readings_of r) r (cut-only r h.2) h.2 a h.1 n
  cut-only (Stretch.literal a more ∷ r) h = literal-back (readings_of r) r (cut-only r h.2) h.2 h.1 a more h.0

  pub cut-one : (xs : List (Option A)) (ss : List (Stretch A)) → readings_of ss ≡ xs → Longest ss → ss ≡ stretches same xs
  cut-one xs ss e h = sym (cut-only ss h) ∙ ap (stretches same) e

-- ---- beside one another across a border of two stretches

module _ {B : Type 0} where
  last-behind : (ys : List B) (z : B) (zs : List B) → get_last? (ys ++ (z ∷ zs)) ≡ get_last? (z ∷ zs)
  last-behind [] z zs = refl
  last-behind (y ∷ []) z zs = refl
  last-behind (y ∷ x ∷ ys) z zs = last-behind (x ∷ ys) z zs

  last-same : (n : ℕ) (y : B) → get_last? (replicate (suc n) y ++ []) ≡ some y
  last-same zero y = refl
  last-same (suc n) y = last-same n y

module _ {A : Type 0} where
  longest-tail : (s : Stretch A) (r : List (Stretch A)) → Longest (s ∷ r) → Longest r
  longest-tail (Stretch.absent n) r h = h.2
  longest-tail (Stretch.repeat n a) r h = h.2
  longest-tail (Stretch.literal a more) r h = h.2

  -- a stretch is never empty
  last_on : (ys : List (Option A)) (s : Stretch A) (r q : List (Stretch A)) → Longest (s ∷ q) → get_last? (ys ++ readings_of (s ∷ r)) ≡ get_last? (readings_of (s ∷ r))
  unfolding readings_of readings_in
  last_on ys (Stretch.absent zero) r q h = absurd (omega arith)
  last_on ys (Stretch.absent (suc n)) r q h = last-behind ys _ _
  last_on ys (Stretch.repeat zero a) r q h = absurd (omega arith)
  last_on ys (Stretch.repeat (suc n) a) r q h = last-behind ys _ _
  last_on ys (Stretch.literal a more) r q h = last-behind ys _ _

  unlike-same : (y x : Option A) (zs : List (Option A)) → Unlike y zs → some y ≡ some x → Unlike x zs
  unlike-same y x zs u e = let p : y ≡ x = cc in subst (λ (v : Option A). Unlike v zs) p u

  unlike-literal : (a : A) (more : List A) (x : Option A) (zs : List (Option A)) → Unpaired (a ∷ more) zs → get_last? (map some (a ∷ more) ++ []) ≡ some x → Unlike x zs
  unlike-literal a [] x zs s e = unlike-same (some a) x zs s.0 e
  unlike-literal a (b ∷ more) x zs s e = unlike-literal b more x zs s.1 e

  unlike-one : (s : Stretch A) (r : List (Stretch A)) (x : Option A) → Longest (s ∷ r) → get_last? (readings_of (s ∷ [])) ≡ some x → Unlike x (readings_of r)
  unfolding readings_of readings_in
  unlike-one (Stretch.absent zero) r x h e = absurd (omega arith)
  unlike-one (Stretch.absent (suc n)) r x h e = unlike-same none x (readings_of r) h.1 (sym (last-same n none) ∙ e)
  unlike-one (Stretch.repeat zero a) r x h e = absurd (omega arith)
  unlike-one (Stretch.repeat (suc n) a) r x h e = unlike-same (some a) x (readings_of r) h.1 (sym (last-same n (some a)) ∙ e)
  unlike-one (Stretch.literal a more) r x h e = unlike-literal a more x (readings_of r) h.0 e

  -- WHEREVER A LONGEST CUT IS PARTED, the last reading before does not equal the first one after: so a literal stretch differs from what is before it too
  pub cut-beside : (before after : List (Stretch A)) (x : Option A) → Longest (before ++ after) → get_last? (readings_of before) ≡ some x → Unlike x (readings_of after)
  unfolding readings_of
  cut-beside [] after x h e = let z : ◌≡◌ {A = ℕ} 0 1 = cc in absurd (omega arith)
  cut-beside (s ∷ []) after x h e = unlike-one s after x h e
  cut-beside (s ∷ t ∷ before) after x h e =
      let k = longest-tail s (t ∷ (before ++ after)) h in
      cut-beside (t ∷ before) after x k (sym (last_on (readings_in s) t before (before ++ after) k) ∙ e)
