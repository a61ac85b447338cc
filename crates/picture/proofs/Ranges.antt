-- A stretch of readings, one more at a time. Assumes nothing.
use mathlib.Core.Path.{◌≡◌, refl, sym, ◌∙◌, ap}
use mathlib.Core.List.{List, [], ◌∷◌, ◌++◌, append-nil, append_assoc, foldl-append}
use mathlib.Core.Bool.{Bool, true, false, cond}
use Prim.Native.Nat.{ℕ, suc, ◌+◌, ◌-◌, ◌^◌, ◌≤◌, ◌<◌, min, max}
use native.Mathlib.Omega.{arith}
use native.Mathlib.Decide.{dec_lt}
use native.Mathlib.Nat.{add-zero, zero-max}
use lib.Dec.{eqb}
use lib.ListN.{length, length-append}
use lib.Seq.{slice, length-slice}
use borrow.Author.Tests.{le-leb, eq-eqb, ne_eqb}
use Rattle.picture.specs.declared.Stretch.{Stretch}
use Rattle.picture.specs.Stretch.{present_of, absent_in, least_of, greatest_of, shown, known, one_more, with_value, with_reading}
use Rattle.picture.specs.Stretch.{fed, stretch_of}

-- ---- one value more

least_more : (xs : List ℕ) (v : ℕ) → 0 < length xs → least_of (xs ++ (v ∷ [])) ≡ min (least_of xs) v
unfolding least_of
least_more [] v h = absurd (omega arith)
least_more (x ∷ xs) v h = foldl-append min x xs (v ∷ [])

greatest-more : (xs : List ℕ) (v : ℕ) → greatest_of (xs ++ (v ∷ [])) ≡ max (greatest_of xs) v
unfolding greatest_of
greatest-more xs v = foldl-append max 0 xs (v ∷ [])

length_more : (xs : List ℕ) (v : ℕ) → length (xs ++ (v ∷ [])) ≡ length xs + 1
length_more xs v = length-append xs (v ∷ [])

stretch-eq : {l l' h h' n n' g g' : ℕ} → l ≡ l' → h ≡ h' → n ≡ n' → g ≡ g'
    → ◌≡◌ {A = Stretch} (record { low = l; high = h; here = n; gone = g }) (record { low = l'; high = h'; here = n'; gone = g' })
stretch-eq p q r s = cc

pub nothing_known : known [] [] ≡ record { low = 0; high = 0; here = 0; gone = 0 }
unfolding present_of absent_in least_of greatest_of
nothing_known = refl

-- ---- the code's way out of each function

module _ (s : Stretch) (v : ℕ) where
  pub value-first : s.here ≡ 0 → record { low = v; high = v; here = 1; gone = s.gone } ≡ with_value s v
  unfolding with_value
  value-first z = simp (eq-eqb s.here 0 z)

  pub value-more : (s.here ≡ 0 → ⊥) → (l h n : ℕ) → l ≡ min s.low v → h ≡ max s.high v → n ≡ one_more s.here
      → record { low = l; high = h; here = n; gone = s.gone } ≡ with_value s v
  unfolding with_value
  value-more z l h n p q r = stretch-eq p q r refl ∙ sym (simp (ne_eqb s.here 0 z))

  pub reading-absent : (p : ℕ) → p ≡ 0 → (n : ℕ) → n ≡ one_more s.gone
      → record { low = s.low; high = s.high; here = s.here; gone = n } ≡ with_reading s v p
  unfolding with_reading
  reading-absent p z n e = stretch-eq refl refl refl e ∙ sym (simp (eq-eqb p 0 z))

  pub reading-present : (p : ℕ) → (p ≡ 0 → ⊥) → with_value s v ≡ with_reading s v p
  unfolding with_reading
  reading-present p z = sym (simp (ne_eqb p 0 z))

-- the first value, and one behind others
shown-first : (xs : List ℕ) (v g : ℕ) → length xs ≡ 0 → record { low = v; high = v; here = 1; gone = g } ≡ shown (xs ++ (v ∷ [])) g
unfolding least_of greatest_of
shown-first [] v g e = stretch-eq refl (sym (zero-max v)) refl refl
shown-first (x ∷ xs) v g e = absurd (omega arith)

shown-more : (xs : List ℕ) (v g : ℕ) → 0 < length xs → length xs < 2 ^ 64 - 1
    → record { low = min (least_of xs) v; high = max (greatest_of xs) v; here = one_more (length xs); gone = g } ≡ shown (xs ++ (v ∷ [])) g
shown-more xs v g h l =
    stretch-eq (sym (least_more xs v h)) (sym (greatest-more xs v)) (omega (arith, length_more xs v)) refl

value-shown : (xs : List ℕ) (v g : ℕ) → length xs < 2 ^ 64 - 1 → with_value (shown xs g) v ≡ shown (xs ++ (v ∷ [])) g
value-shown xs v g l =
    elim (dec_lt 0 (length xs)) [
      | yes m ↦ sym (value-more (shown xs g) v (λ e. omega arith) _ _ _ refl refl refl) ∙ shown-more xs v g m l
      | no m ↦ sym (value-first (shown xs g) v (omega arith)) ∙ shown-first xs v g (omega arith)
    ]

-- ---- one reading more

present-more : (vs ps : List ℕ) (v p : ℕ) → length vs ≡ length ps
    → present_of (vs ++ (v ∷ [])) (ps ++ (p ∷ [])) ≡ present_of vs ps ++ cond (eqb p 0) [] (v ∷ [])
unfolding present_of
present-more [] [] v p e = refl
present-more [] (q ∷ ps) v p e = absurd (omega arith)
present-more (w ∷ vs) [] v p e = absurd (omega arith)
present-more (w ∷ vs) (q ∷ ps) v p e = go (eqb q 0) (present-more vs ps v p (omega arith))
  where
    go : (t : Bool) → present_of (vs ++ (v ∷ [])) (ps ++ (p ∷ [])) ≡ present_of vs ps ++ cond (eqb p 0) [] (v ∷ [])
        → cond t (present_of (vs ++ (v ∷ [])) (ps ++ (p ∷ []))) (w ∷ present_of (vs ++ (v ∷ [])) (ps ++ (p ∷ [])))
        ≡ cond t (present_of vs ps) (w ∷ present_of vs ps) ++ cond (eqb p 0) [] (v ∷ [])
    go true h = h
    go false h = ap (λ (l : List ℕ). w ∷ l) h

absent_more : (ps : List ℕ) (p : ℕ) → absent_in (ps ++ (p ∷ [])) ≡ absent_in ps + cond (eqb p 0) 1 0
unfolding absent_in
absent_more [] p = go (eqb p 0)
  where
    go : (t : Bool) → cond t 1 0 ≡ 0 + cond t 1 0
    go true = refl
    go false = refl
absent_more (q ∷ ps) p = go (eqb q 0) (absent_more ps p)
  where
    go : (t : Bool) → absent_in (ps ++ (p ∷ [])) ≡ absent_in ps + cond (eqb p 0) 1 0
        → cond t (suc (absent_in (ps ++ (p ∷ [])))) (absent_in (ps ++ (p ∷ []))) ≡ cond t (suc (absent_in ps)) (absent_in ps) + cond (eqb p 0) 1 0
    go true h = omega arith
    go false h = h

-- each reading is present or absent
pub counted : (vs ps : List ℕ) → length (present_of vs ps) + absent_in ps ≤ length ps
unfolding present_of absent_in
counted [] [] = omega arith
counted [] (p ∷ ps) = go (eqb p 0) (counted [] ps)
  where
    go : (t : Bool) → length (present_of [] ps) + absent_in ps ≤ length ps → 0 + cond t (suc (absent_in ps)) (absent_in ps) ≤ suc (length ps)
    go true h = omega arith
    go false h = omega arith
counted (v ∷ vs) [] = omega arith
counted (v ∷ vs) (p ∷ ps) = go (eqb p 0) (counted vs ps)
  where
    go : (t : Bool) → length (present_of vs ps) + absent_in ps ≤ length ps
        → length (cond t (present_of vs ps) (v ∷ present_of vs ps)) + cond t (suc (absent_in ps)) (absent_in ps) ≤ suc (length ps)
    go true h = omega arith
    go false h = omega arith

module _ (vs ps : List ℕ) (v p : ℕ) (same : length vs ≡ length ps) where
  known-absent : p ≡ 0 → absent_in ps < 2 ^ 64 - 1
      → record { low = least_of (present_of vs ps); high = greatest_of (present_of vs ps); here = length (present_of vs ps); gone = one_more (absent_in ps) }
      ≡ known (vs ++ (v ∷ [])) (ps ++ (p ∷ []))
  known-absent e l =
      let t = eq-eqb p 0 e in
      let q : present_of (vs ++ (v ∷ [])) (ps ++ (p ∷ [])) ≡ present_of vs ps = present-more vs ps v p same ∙ rw t (append-nil (present_of vs ps)) in
      let r : absent_in (ps ++ (p ∷ [])) ≡ one_more (absent_in ps) = absent_more ps p ∙ rw t (omega arith) in
      cc

  known-present : (p ≡ 0 → ⊥) → shown (present_of vs ps ++ (v ∷ [])) (absent_in ps) ≡ known (vs ++ (v ∷ [])) (ps ++ (p ∷ []))
  known-present n =
      let t = ne_eqb p 0 n in
      let q : present_of (vs ++ (v ∷ [])) (ps ++ (p ∷ [])) ≡ present_of vs ps ++ (v ∷ []) = present-more vs ps v p same ∙ rw t in
      let r : absent_in (ps ++ (p ∷ [])) ≡ absent_in ps = absent_more ps p ∙ rw t (add-zero (absent_in ps)) in
      cc

  -- WHAT IS KNOWN OF READINGS, WITH ONE MORE: so readings may come one after the other
  pub known_more : length ps < 2 ^ 64 - 1 → with_reading (known vs ps) v p ≡ known (vs ++ (v ∷ [])) (ps ++ (p ∷ []))
  known_more l =
      elim (dec_lt 0 p) [
        | yes m ↦
            sym (reading-present (known vs ps) v p (λ e. omega arith))
            ∙ value-shown (present_of vs ps) v (absent_in ps) (omega (arith, counted vs ps))
            ∙ known-present (λ e. omega arith)
        | no m ↦
            sym (reading-absent (known vs ps) v p (omega arith) _ refl) ∙ known-absent (omega arith) (omega (arith, counted vs ps))
      ]

-- readings that are fed one after the other are known
fed-known : (us qs vs ps : List ℕ) → length us ≡ length qs → length vs ≡ length ps → length qs + length ps < 2 ^ 64
    → fed (known us qs) vs ps ≡ known (us ++ vs) (qs ++ ps)
unfolding fed
fed-known us qs [] [] e f l = let p = append-nil us in let q = append-nil qs in cc
fed-known us qs [] (p ∷ ps) e f l = absurd (omega arith)
fed-known us qs (v ∷ vs) [] e f l = absurd (omega arith)
fed-known us qs (v ∷ vs) (p ∷ ps) e f l =
    let g = length-append us (v ∷ []) in
    let h = length-append qs (p ∷ []) in
    let m = known_more us qs v p e (omega arith) in
    let r = fed-known (us ++ (v ∷ [])) (qs ++ (p ∷ [])) vs ps (omega arith) (omega arith) (omega arith) in
    let x = append_assoc us (v ∷ []) vs in
    let y = append_assoc qs (p ∷ []) ps in
    ap (λ (s : Stretch). fed s vs ps) m ∙ r ∙ cc

-- ---- a stretch of two lists

pub of-all : (values present : List ℕ) (a e : ℕ) → e ≤ length values → e ≤ length present
    → stretch_of values present a e ≡ known (slice a e values) (slice a e present)
unfolding stretch_of
of-all values present a e f g = simp (le-leb e (length values) f, le-leb e (length present) g)

-- THE CODE'S WAY TO A STRETCH: its readings, fed one after the other to nothing
pub stretch-fed : (values present : List ℕ) (a e : ℕ) → e ≤ length values → e ≤ length present → e < 2 ^ 64
    → fed (known [] []) (slice a e values) (slice a e present) ≡ stretch_of values present a e
stretch-fed values present a e f g l =
    let v = length-slice a e values f in
    let p = length-slice a e present g in
    fed-known [] [] (slice a e values) (slice a e present) refl (omega arith) (omega arith) ∙ sym (of-all values present a e f g)
