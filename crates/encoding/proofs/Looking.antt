-- Looking ahead over a given list finds the stretches of the writer, over any element: laws for the start, a turn and the end of each loop
-- that looks for a stretch's end. Assumes nothing.
use Prim.Native.Nat.{ℕ, zero, suc, ◌+◌, ◌-◌, ◌≤◌, ◌<◌}
use mathlib.Core.Path.{◌≡◌, refl, sym, ◌∙◌, ap, subst}
use mathlib.Core.List.{List, [], ◌∷◌, ◌++◌}
use mathlib.Core.Option.{Option, none, some}
use mathlib.Core.Bool.{Bool, true, false, cond}
use native.Mathlib.Omega.{arith}
use native.Mathlib.Nat.{add-zero}
use native.Mathlib.Numerals.{add-one}
use lib.ListN.{length, get_or, take, drop, length-drop}
use lib.Seq.{slice, slice_empty, take-suc, drop-cons, drop-drop, drop-nil, length-take-le, drop-append-le}
use lib.Dec.{eqb}
use borrow.Author.Tests.{eq-eqb, ne_eqb}
use Rattle.encoding.specs.Stretches.{Stretch, literal_of, join_none, join_some, stretches}
use Rattle.encoding.specs.Given.{given, slot_list}
use Rattle.encoding.specs.Ahead.{from, repeats, join_all, Off, Closed, Apart, StretchAt, RepeatTo, LiteralTo, Paired}
use Rattle.encoding.specs.Flags.{zeros}
use Rattle.encoding.specs.declared.StretchEnd.TheVariants as stretch

-- ---- a given list from an index on

module _ {B : Type 0} (d : B) where
  pub slot-drop : (v : List B) (p : List ℕ) (k : ℕ) → k < length v → length p ≡ length v
      → drop k (slot_list v p) ≡ given (get_or p k 0) (get_or v k d) ∷ drop (suc k) (slot_list v p)
  unfolding slot_list
  slot-drop [] p k l e = absurd (omega arith)
  slot-drop (x ∷ v) [] k l e = absurd (omega arith)
  slot-drop (x ∷ v) (b ∷ p) zero l e = refl
  slot-drop (x ∷ v) (b ∷ p) (suc k) l e = slot-drop v p k (omega arith) (omega arith)

pub slot-past : {B : Type 0} (v : List B) (p : List ℕ) (k : ℕ) → length v ≤ k → drop k (slot_list v p) ≡ []
unfolding slot_list
slot-past [] p k l = drop-nil k
slot-past (x ∷ v) [] k l = drop-nil k
slot-past (x ∷ v) (b ∷ p) zero l = absurd (omega arith)
slot-past (x ∷ v) (b ∷ p) (suc k) l = slot-past v p k (omega arith)

module _ {B : Type 0} (same : B → B → Bool) (d : B) (v : List B) (p : List ℕ) (k : ℕ) where
  pub from-none : k < length v → length p ≡ length v → get_or p k 0 ≡ 0 → from same v p k ≡ join_none (from same v p (k + 1))
  unfolding from stretches
  from-none l e f =
      ap (stretches same) (slot-drop d v p k l e)
      ∙ simp (eq-eqb (get_or p k 0) 0 f, add-one)

  pub from_some : k < length v → length p ≡ length v → (get_or p k 0 ≡ 0 → ⊥) → from same v p k ≡ join_some same (get_or v k d) (from same v p (k + 1))
  unfolding from stretches
  from_some l e f =
      ap (stretches same) (slot-drop d v p k l e)
      ∙ simp (ne_eqb (get_or p k 0) 0 f, add-one)

  pub from_end : length v ≤ k → from same v p k ≡ []
  unfolding from stretches
  from_end l = ap (stretches same) (slot-past v p k l)

-- ---- absent readings

abbrev NoAbsent : {A : Type 0} → List (Stretch A) → Type 0
NoAbsent [] = Unit {0}
NoAbsent (Stretch.absent n ∷ r) = ⊥
NoAbsent (Stretch.repeat n b ∷ r) = Unit {0}
NoAbsent (Stretch.literal b bs ∷ r) = Unit {0}

absent-first : {A : Type 0} (r : List (Stretch A)) → NoAbsent r → join_none r ≡ Stretch.absent 1 ∷ r
unfolding join_none
absent-first [] h = refl
absent-first (Stretch.absent n ∷ r) h = absurd h
absent-first (Stretch.repeat n b ∷ r) h = refl
absent-first (Stretch.literal b bs ∷ r) h = refl

module _ {A : Type 0} (same : A → A → Bool) where
  no_absent-some : (a : A) (r : List (Stretch A)) → NoAbsent (join_some same a r)
  unfolding join_some
  no_absent-some a [] = tt
  no_absent-some a (Stretch.absent n ∷ r) = tt
  no_absent-some a (Stretch.repeat n b ∷ r) = go (same a b)
    where
      go : (t : Bool) → NoAbsent (cond t (Stretch.repeat (suc n) b ∷ r) (Stretch.literal a [] ∷ Stretch.repeat n b ∷ r))
      go true = tt
      go false = tt
  no_absent-some a (Stretch.literal b bs ∷ r) = go (same a b)
    where
      go : (t : Bool) → NoAbsent (cond t (Stretch.repeat 2 b ∷ literal_of bs r) (Stretch.literal a (b ∷ bs) ∷ r))
      go true = tt
      go false = tt

  -- a list that begins with a value has no absent stretch in front
  no_absent-list : (v : List A) (p : List ℕ) → zeros p ≡ 0 → NoAbsent (stretches same (slot_list v p))
  unfolding slot_list stretches zeros
  no_absent-list [] p h = tt
  no_absent-list (x ∷ v) [] h = tt
  no_absent-list (x ∷ v) (b ∷ p) h = go (eqb b 0) h
    where
      go : (t : Bool) → cond t (suc (zeros p)) 0 ≡ 0 → NoAbsent (stretches same (cond t none (some x) ∷ slot_list v p))
      go true h = absurd (omega arith)
      go false h = no_absent-some x (stretches same (slot_list v p))

  absent-cut : (v : List A) (p : List ℕ) → length p ≡ length v → 0 < zeros p
      → stretches same (slot_list v p) ≡ Stretch.absent (zeros p) ∷ stretches same (drop (zeros p) (slot_list v p))
  unfolding slot_list stretches zeros join_none
  absent-cut [] [] e l = absurd (omega arith)
  absent-cut [] (b ∷ p) e l = absurd (omega arith)
  absent-cut (x ∷ v) [] e l = absurd (omega arith)
  absent-cut (x ∷ v) (b ∷ p) e l = go (eqb b 0) l (absent-cut v p (omega arith))
    where
      more : (n : ℕ) → zeros p ≡ n → (0 < zeros p → stretches same (slot_list v p) ≡ Stretch.absent (zeros p) ∷ stretches same (drop (zeros p) (slot_list v p)))
          → join_none (stretches same (slot_list v p)) ≡ Stretch.absent (suc n) ∷ stretches same (drop n (slot_list v p))
      more zero z h = absent-first (stretches same (slot_list v p)) (no_absent-list v p z)
      more (suc n) z h = ap join_none (h (omega arith) ∙ ap (λ (k : ℕ). Stretch.absent k ∷ stretches same (drop k (slot_list v p))) z)

      go : (t : Bool) → 0 < cond t (suc (zeros p)) 0 → (0 < zeros p → stretches same (slot_list v p) ≡ Stretch.absent (zeros p) ∷ stretches same (drop (zeros p) (slot_list v p)))
          → stretches same (cond t none (some x) ∷ slot_list v p)
          ≡ Stretch.absent (cond t (suc (zeros p)) 0) ∷ stretches same (drop (cond t (suc (zeros p)) 0) (cond t none (some x) ∷ slot_list v p))
      go true l h = more (zeros p) refl h
      go false l h = absurd (omega arith)

  pub off-none : (a : A) (r : List (Stretch A)) → Off same a (join_none r)
  unfolding join_none
  off-none a [] = tt
  off-none a (Stretch.absent n ∷ r) = tt
  off-none a (Stretch.repeat n b ∷ r) = tt
  off-none a (Stretch.literal b bs ∷ r) = tt

  pub closed_none : (r : List (Stretch A)) → Closed (join_none r)
  unfolding join_none
  closed_none [] = tt
  closed_none (Stretch.absent n ∷ r) = tt
  closed_none (Stretch.repeat n b ∷ r) = tt
  closed_none (Stretch.literal b bs ∷ r) = tt

  -- a value that does not join the first stretch begins a literal one
  pub open-lone : (a : A) (r : List (Stretch A)) → Off same a r → Closed (join_some same a r) → ⊥
  unfolding join_some
  open-lone a [] o c = c
  open-lone a (Stretch.absent n ∷ r) o c = c
  open-lone a (Stretch.repeat n b ∷ r) o c =
      subst (λ (t : Bool). Closed (cond t (Stretch.repeat (suc n) b ∷ r) (Stretch.literal a [] ∷ Stretch.repeat n b ∷ r))) o c
  open-lone a (Stretch.literal b bs ∷ r) o c =
      subst (λ (t : Bool). Closed (cond t (Stretch.repeat 2 b ∷ literal_of bs r) (Stretch.literal a (b ∷ bs) ∷ r))) o c

  module _ (same-eq : (a b : A) → same a b ≡ true → a ≡ b) (same_self : (a : A) → same a a ≡ true) where
    pub off-some : (a b : A) (r : List (Stretch A)) → same a b ≡ false → Off same a (join_some same b r)
    unfolding join_some
    off-some a b [] e = e
    off-some a b (Stretch.absent n ∷ r) e = e
    off-some a b (Stretch.repeat n c ∷ r) e = go (same b c) refl
      where
        go : (t : Bool) → same b c ≡ t → Off same a (cond t (Stretch.repeat (suc n) c ∷ r) (Stretch.literal b [] ∷ Stretch.repeat n c ∷ r))
        go true h = subst (λ (x : A). same a x ≡ false) (same-eq b c h) e
        go false h = e
    off-some a b (Stretch.literal c cs ∷ r) e = go (same b c) refl
      where
        go : (t : Bool) → same b c ≡ t → Off same a (cond t (Stretch.repeat 2 c ∷ literal_of cs r) (Stretch.literal b (c ∷ cs) ∷ r))
        go true h = subst (λ (x : A). same a x ≡ false) (same-eq b c h) e
        go false h = e

    -- a value before others than it begins a literal stretch
    rest_of : (a : A) (r : List (Stretch A)) → Off same a r → (bs : List A) × (t : List (Stretch A)) × (join_some same a r ≡ Stretch.literal a bs ∷ t) × (literal_of bs t ≡ r)
    unfolding join_some literal_of
    rest_of a [] h = ([], [], refl, refl)
    rest_of a (Stretch.absent n ∷ r) h = ([], Stretch.absent n ∷ r, refl, refl)
    rest_of a (Stretch.repeat n b ∷ r) h = ([], Stretch.repeat n b ∷ r, rw h, refl)
    rest_of a (Stretch.literal b bs ∷ r) h = (b ∷ bs, r, rw h, refl)

    twice : (a : A) (r : List (Stretch A)) → Off same a r → join_some same a (join_some same a r) ≡ Stretch.repeat 2 a ∷ r
    unfolding join_some
    twice a r h =
        let z = rest_of a r h in
        ap (join_some same a) z.2 ∙ simp (same_self a) (ap (λ (l : List (Stretch A)). Stretch.repeat 2 a ∷ l) z.3)

    repeats-on : (m j : ℕ) (a : A) (r : List (Stretch A)) → repeats same m a (Stretch.repeat j a ∷ r) ≡ Stretch.repeat (j + m) a ∷ r
    unfolding repeats join_some
    repeats-on zero j a r = ap (λ (k : ℕ). Stretch.repeat k a ∷ r) (sym (add-zero j))
    repeats-on (suc m) j a r =
        let e : suc j + m ≡ j + suc m = omega arith in
        ap (λ (t : Bool). repeats same m a (cond t (Stretch.repeat (suc j) a ∷ r) (Stretch.literal a [] ∷ Stretch.repeat j a ∷ r))) (same_self a)
        ∙ repeats-on m (suc j) a r ∙ ap (λ (k : ℕ). Stretch.repeat k a ∷ r) e

    pub repeats-end : (m : ℕ) (a : A) (r : List (Stretch A)) → 2 ≤ m → Off same a r → repeats same m a r ≡ Stretch.repeat m a ∷ r
    unfolding repeats
    repeats-end zero a r l h = absurd (omega arith)
    repeats-end (suc zero) a r l h = absurd (omega arith)
    repeats-end (suc (suc m)) a r l h =
        let e : 2 + m ≡ suc (suc m) = omega arith in
        ap (repeats same m a) (twice a r h) ∙ repeats-on m 2 a r ∙ ap (λ (k : ℕ). Stretch.repeat k a ∷ r) e

    closed-if : (t : Bool) (x y : List (Stretch A)) → t ≡ true → Closed x → Closed (cond t x y)
    closed-if t x y e h = rw e h

    -- two equal values begin a run
    pub closed-twice : (a : A) (r : List (Stretch A)) → Closed (join_some same a (join_some same a r))
    unfolding join_some
    closed-twice a [] = closed-if (same a a) _ _ (same_self a) tt
    closed-twice a (Stretch.absent n ∷ r) = closed-if (same a a) _ _ (same_self a) tt
    closed-twice a (Stretch.repeat n b ∷ r) = go (same a b) refl
      where
        go : (t : Bool) → same a b ≡ t → Closed (join_some same a (cond t (Stretch.repeat (suc n) b ∷ r) (Stretch.literal a [] ∷ Stretch.repeat n b ∷ r)))
        go true e = closed-if (same a b) _ _ e tt
        go false e = closed-if (same a a) _ _ (same_self a) tt
    closed-twice a (Stretch.literal b bs ∷ r) = go (same a b) refl
      where
        go : (t : Bool) → same a b ≡ t → Closed (join_some same a (cond t (Stretch.repeat 2 b ∷ literal_of bs r) (Stretch.literal a (b ∷ bs) ∷ r)))
        go true e = closed-if (same a b) _ _ e tt
        go false e = closed-if (same a a) _ _ (same_self a) tt

    -- ---- values that equal no neighbour

    pub literal-end : (a : A) (l : List A) (r : List (Stretch A)) → Apart same a l r → Closed r → join_some same a (join_all same l r) ≡ Stretch.literal a l ∷ r
    unfolding join_all join_some
    literal-end a [] [] h k = refl
    literal-end a [] (Stretch.absent n ∷ r) h k = refl
    literal-end a [] (Stretch.repeat n b ∷ r) h k = rw h
    literal-end a [] (Stretch.literal b bs ∷ r) h k = absurd k
    literal-end a (b ∷ l) r h k = ap (join_some same a) (literal-end b l r h.1 k) ∙ rw h.0

    off-back : (a b : A) (r : List (Stretch A)) → Off same a (join_some same b r) → Off same b r → same a b ≡ false
    off-back a b r h k = subst (Off same a) (rest_of b r k).2 h

    pub apart_more : (a : A) (l : List A) (b : A) (r : List (Stretch A)) → Apart same a l (join_some same b r) → Off same b r → Apart same a (l ++ (b ∷ [])) r
    apart_more a [] b r h k = (off-back a b r h k, k)
    apart_more a (x ∷ l) b r h k = (h.0, apart_more x l b r h.1 k)

    pub join_all-more : (l : List A) (b : A) (r : List (Stretch A)) → join_all same l (join_some same b r) ≡ join_all same (l ++ (b ∷ [])) r
    unfolding join_all
    join_all-more [] b r = refl
    join_all-more (x ∷ l) b r = ap (join_some same x) (join_all-more l b r)

-- ---- the stretch at an index, as the code finds it

slot-drops : {B : Type 0} (i : ℕ) (v : List B) (p : List ℕ) → length p ≡ length v → drop i (slot_list v p) ≡ slot_list (drop i v) (drop i p)
unfolding slot_list
slot-drops zero v p e = refl
slot-drops (suc i) [] p e = refl
slot-drops (suc i) (x ∷ v) [] e = absurd (omega arith)
slot-drops (suc i) (x ∷ v) (b ∷ p) e = slot-drops i v p (omega arith)

zeros-first : (p : List ℕ) (i : ℕ) → i < length p → get_or p i 0 ≡ 0 → 0 < zeros (drop i p)
unfolding zeros
zeros-first p i l e = rw (drop-cons p i 0 l, eq-eqb (get_or p i 0) 0 e) (omega arith)

zeros-most : (p : List ℕ) → zeros p ≤ length p
unfolding zeros
zeros-most [] = omega arith
zeros-most (b ∷ p) = go (eqb b 0) (zeros-most p)
  where
    go : (t : Bool) → zeros p ≤ length p → cond t (suc (zeros p)) 0 ≤ suc (length p)
    go true h = omega arith
    go false h = omega arith

module _ {A : Type 0} (same : A → A → Bool) (d : A) (v : List A) (p : List ℕ) (even : length p ≡ length v) where
  pub absent-stretch : (i : ℕ) → i < length v → get_or p i 0 ≡ 0 → StretchAt same d v p i (stretch.Absent (i + zeros (drop i p)))
  unfolding from
  absent-stretch i l e =
      let n = zeros (drop i p) in
      let some : 0 < n = zeros-first p i (omega arith) e in
      let s = slot-drops i v p even in
      let ev : length (drop i p) ≡ length (drop i v) = omega (arith, length-drop i p, length-drop i v) in
      let k : n ≡ i + n - i = omega arith in
      record {
        later = omega arith;
        within = omega (arith, zeros-most (drop i p), length-drop i p);
        cuts =
            ap (stretches same) s ∙ absent-cut same (drop i v) (drop i p) ev some
            ∙ ap (λ (m : ℕ). Stretch.absent m ∷ stretches same (drop n (slot_list (drop i v) (drop i p)))) k
            ∙ ap (λ (xs : List (Option A)). Stretch.absent (i + n - i) ∷ stretches same (drop n xs)) (sym s)
            ∙ ap (λ (xs : List (Option A)). Stretch.absent (i + n - i) ∷ stretches same xs) (drop-drop n i (slot_list v p));
      }

  -- ---- equal values
  pub repeat-start : (i : ℕ) → i < length v → (get_or p i 0 ≡ 0 → ⊥) → from same v p i ≡ repeats same (i + 1 - i) (get_or v i d) (from same v p (i + 1))
  unfolding repeats
  repeat-start i l e =
      let k : 1 ≡ i + 1 - i = omega arith in
      from_some same d v p i l even e ∙ ap (λ (m : ℕ). repeats same m (get_or v i d) (from same v p (i + 1))) k

  pub repeat-more : (i k : ℕ) → i < k → k < length v → (get_or p k 0 ≡ 0 → ⊥) → get_or v k d ≡ get_or v i d
      → from same v p i ≡ repeats same (k - i) (get_or v i d) (from same v p k) → from same v p i ≡ repeats same (k + 1 - i) (get_or v i d) (from same v p (k + 1))
  unfolding repeats
  repeat-more i k b l e q h =
      let z : suc (k - i) ≡ k + 1 - i = omega arith in
      h ∙ ap (repeats same (k - i) (get_or v i d)) (from_some same d v p k l even e ∙ ap (λ (x : A). join_some same x (from same v p (k + 1))) q)
      ∙ ap (λ (m : ℕ). repeats same m (get_or v i d) (from same v p (k + 1))) z

  pub off-absent : (a : A) (k : ℕ) → k < length v → get_or p k 0 ≡ 0 → Off same a (from same v p k)
  off-absent a k l e = subst (Off same a) (sym (from-none same d v p k l even e)) (off-none same a (from same v p (k + 1)))

  pub off-end : (a : A) (k : ℕ) → length v ≤ k → Off same a (from same v p k)
  off-end a k l = subst (Off same a) (sym (from_end same d v p k l)) tt

  pub closed-absent : (k : ℕ) → k < length v → get_or p k 0 ≡ 0 → Closed (from same v p k)
  closed-absent k l e = subst Closed (sym (from-none same d v p k l even e)) (closed_none same (from same v p (k + 1)))

  pub closed-end : (k : ℕ) → length v ≤ k → Closed (from same v p k)
  closed-end k l = subst Closed (sym (from_end same d v p k l)) tt

  slice-more : (i k : ℕ) → i ≤ k → k < length v → slice i (k + 1) v ≡ slice i k v ++ (get_or v k d ∷ [])
  slice-more i k b l =
      let z : length (take k v) ≡ k = length-take-le k v (omega arith) in
      ap (λ (m : ℕ). drop i (take m v)) (add-one k) ∙ ap (drop i) (take-suc v k d l) ∙ drop-append-le i (take k v) (get_or v k d ∷ []) (omega arith)

  pub literal-start : (i : ℕ) → i < length v → (get_or p i 0 ≡ 0 → ⊥) → Off same (get_or v i d) (from same v p (i + 1)) → LiteralTo same d v p i (i + 1)
  unfolding join_all
  literal-start i l e o =
      let z = slice_empty (i + 1) v in
      record {
        later = omega arith;
        within = omega arith;
        cuts = from_some same d v p i l even e
            ∙ ap (λ (x : List A). join_some same (get_or v i d) (join_all same x (from same v p (i + 1)))) (sym z);
        apart = subst (λ (x : List A). Apart same (get_or v i d) x (from same v p (i + 1))) (sym z) o;
      }

  -- one value alone begins a literal stretch
  pub lone : (i k : ℕ) → i < length v → (get_or p i 0 ≡ 0 → ⊥) → k - i < 2 → RepeatTo same d v p i k → LiteralTo same d v p i (i + 1)
  lone i k l e b h =
      let z : k ≡ i + 1 = omega (arith, h.later) in
      literal-start i l e (subst (λ (j : ℕ). Off same (get_or v i d) (from same v p j)) z h.off)

  module _ (same-eq : (a b : A) → same a b ≡ true → a ≡ b) (same_self : (a : A) → same a a ≡ true) where
    pub off-other : (a : A) (k : ℕ) → k < length v → (get_or p k 0 ≡ 0 → ⊥) → same a (get_or v k d) ≡ false → Off same a (from same v p k)
    off-other a k l e q =
        subst (Off same a) (sym (from_some same d v p k l even e))
        (off-some same same-eq same_self a (get_or v k d) (from same v p (k + 1)) q)

    pub repeat-stretch : (i k : ℕ) → RepeatTo same d v p i k → 2 ≤ k - i → StretchAt same d v p i (stretch.Repeat k)
    repeat-stretch i k h l =
        record {
          later = h.later;
          within = h.within;
          cuts = h.cuts ∙ repeats-end same same-eq same_self (k - i) (get_or v i d) (from same v p k) l h.off;
        }

    -- ---- values that equal no neighbour
    pub paired_yes : (k : ℕ) → k + 1 < length v → (get_or p k 0 ≡ 0 → ⊥) → (get_or p (k + 1) 0 ≡ 0 → ⊥) → get_or v (k + 1) d ≡ get_or v k d → Closed (from same v p k)
    paired_yes k l e f q =
        subst Closed
        (sym (from_some same d v p k (omega arith) even e
        ∙ ap (join_some same (get_or v k d)) (from_some same d v p (k + 1) l even f ∙ ap (λ (x : A). join_some same x (from same v p (k + 1 + 1))) q)))
        (closed-twice same same-eq same_self (get_or v k d) (from same v p (k + 1 + 1)))

    pub literal-more : (i k : ℕ) → k < length v → (get_or p k 0 ≡ 0 → ⊥) → Off same (get_or v k d) (from same v p (k + 1)) → LiteralTo same d v p i k → LiteralTo same d v p i (k + 1)
    literal-more i k l e o h =
        let f = from_some same d v p k l even e in
        let b = h.later in
        let z = slice-more (i + 1) k (omega arith) l in
        record {
          later = omega arith;
          within = omega arith;
          cuts = h.cuts
              ∙ ap (λ (r : List (Stretch A)). join_some same (get_or v i d) (join_all same (slice (i + 1) k v) r)) f
              ∙ ap (join_some same (get_or v i d)) (join_all-more same same-eq same_self (slice (i + 1) k v) (get_or v k d) (from same v p (k + 1)))
              ∙ ap (λ (x : List A). join_some same (get_or v i d) (join_all same x (from same v p (k + 1)))) (sym z);
          apart =
              subst (λ (x : List A). Apart same (get_or v i d) x (from same v p (k + 1))) (sym z)
              (apart_more same same-eq same_self (get_or v i d) (slice (i + 1) k v) (get_or v k d) (from same v p (k + 1))
              (subst (λ (r : List (Stretch A)). Apart same (get_or v i d) (slice (i + 1) k v) r) f h.apart) o);
        }

    pub literal-stop : (i k : ℕ) → Closed (from same v p k) → LiteralTo same d v p i k → StretchAt same d v p i (stretch.Literal k)
    literal-stop i k c h =
        record {
          later = h.later;
          within = h.within;
          cuts = h.cuts ∙ literal-end same same-eq same_self (get_or v i d) (slice (i + 1) k v) (from same v p k) h.apart c;
        }

-- ---- a test whether a value stands twice
module _ {A : Type 0} (same : A → A → Bool) (d : A) (v : List A) (p : List ℕ) (k : ℕ) (b : Bool) (h : Paired same d v p k b) where
  pub paired-true : b ≡ true → Closed (from same v p k)
  paired-true e = subst (Paired same d v p k) e h

  pub paired-false : b ≡ false → Off same (get_or v k d) (from same v p (k + 1))
  paired-false e = subst (Paired same d v p k) e h
