-- The scale of a picture, one law for each way out of a function, and what its numbers come to. Assumes nothing.
use mathlib.Core.Path.{◌≡◌, refl, ◌∙◌, ap}
use mathlib.Core.List.{List, [], ◌∷◌}
use Prim.Native.Nat.{ℕ, zero, suc, ◌+◌, ◌-◌, ◌*◌, ◌/◌, ◌%◌, ◌^◌, ◌≤◌, ◌<◌, max}
use native.Mathlib.Decide.{dec_lt}
use native.Mathlib.Omega.{arith}
use native.Mathlib.Nat.{le-div_iff_mul-le, div-lt_iff_lt-mul, mod-lt, zero-div, mul-zero}
use borrow.Author.Tests.{le-leb, lt-leb, eq-eqb, ne_eqb}
use Rattle.picture.specs.Scale.{steps_from, first_from, step_of, past_mark, base_of, parts_of, per_place, row_of, depth_of, scale_of}

-- ---- parts of a size

-- so many parts, each whole
pub whole : (k size n : ℕ) → 0 < size → k ≤ n / size → k * size ≤ n
whole k size n h l = (le-div_iff_mul-le {k = size} {x = k} {y = n} h).0 l

-- one part more than are whole
pub past : (k size n : ℕ) → 0 < size → n / size < k → n < k * size
past k size n h l = (div-lt_iff_lt-mul {k = size} {x = n} {y = k} h).0 l

module _ (n size : ℕ) where
  pub parts_none : n ≡ 0 → parts_of n size ≡ 0
  unfolding parts_of
  parts_none e = simp (eq-eqb n 0 e)

  pub parts-some : (n ≡ 0 → ⊥) → parts_of n size ≡ (n - 1) / size + 1
  unfolding parts_of
  parts-some e = simp (ne_eqb n 0 e)

module _ (n width : ℕ) where
  pub per-flat : width ≡ 0 → per_place n width ≡ 1
  unfolding per_place
  per-flat e = simp (eq-eqb width 0 e)

  pub per-wide : (width ≡ 0 → ⊥) → per_place n width ≡ max 1 (parts_of n width)
  unfolding per_place
  per-wide e = simp (ne_eqb width 0 e)

-- ---- rows and depths

module _ (depth base step : ℕ) where
  pub row-flat : step ≡ 0 → row_of depth base step ≡ 0
  unfolding row_of
  row-flat e = simp (eq-eqb step 0 e)

  pub row_below : (step ≡ 0 → ⊥) → row_of depth base step ≡ (depth - base) / step
  unfolding row_of
  row_below e = simp (ne_eqb step 0 e)

  pub row_first : (step ≡ 0 → ⊥) → depth < base → row_of depth base step ≡ 0
  row_first n l =
      let e : depth - base ≡ 0 = omega arith in
      row_below n ∙ ap (λ (d : ℕ). d / step) e ∙ zero-div step

module _ (row base step : ℕ) where
  pub depth-flat : step ≡ 0 → base < 2 ^ 64 → depth_of row base step ≡ base
  unfolding depth_of
  depth-flat z h =
      let e : row * step ≡ 0 = ap (λ (n : ℕ). row * n) z ∙ mul-zero row in
      omega arith

  pub depth-fits : base + row * step < 2 ^ 64 → depth_of row base step ≡ base + row * step
  unfolding depth_of
  depth-fits h = omega arith

  pub depth-past : 0 < step → (18446744073709551615 - base) / step < row → depth_of row base step ≡ 18446744073709551615
  unfolding depth_of
  depth-past h l =
      let m : 18446744073709551615 - base < row * step = past row step (18446744073709551615 - base) h l in
      omega arith

-- ---- the marks

module _ (depth step origin : ℕ) where
  pub past-within : origin % step ≤ depth % step → past_mark depth step origin ≡ depth % step - origin % step
  unfolding past_mark
  past-within h = simp (le-leb (origin % step) (depth % step) h)

  pub past-around : depth % step < origin % step → past_mark depth step origin ≡ depth % step + (step - origin % step)
  unfolding past_mark
  past-around h = simp (lt-leb (origin % step) (depth % step) h)

  pub base-mark : past_mark depth step origin ≤ depth → base_of depth step origin ≡ depth - past_mark depth step origin
  unfolding base_of
  base-mark h = simp (le-leb (past_mark depth step origin) depth h)

  pub base-none : depth < past_mark depth step origin → base_of depth step origin ≡ depth
  unfolding base_of
  base-none h = simp (lt-leb (past_mark depth step origin) depth h)

-- a depth lies less than a step past a mark
past-less : (depth step origin : ℕ) → 0 < step → past_mark depth step origin < step
past-less depth step origin h =
    elim (dec_lt (depth % step) (origin % step)) [
      | yes l ↦ omega (arith, past-around depth step origin l, mod-lt origin {m = step} h)
      | no l ↦ omega (arith, past-within depth step origin (omega arith), mod-lt depth {m = step} h)
    ]

-- THE BASE: no reading lies before the first row, and the least lies in it
module _ (low step origin : ℕ) where
  pub base-low : base_of low step origin ≤ low
  base-low =
      elim (dec_lt low (past_mark low step origin)) [
        | yes l ↦ omega (arith, base-none low step origin l)
        | no l ↦ omega (arith, base-mark low step origin (omega arith))
      ]

  pub base-near : 0 < step → low < base_of low step origin + step
  base-near h =
      elim (dec_lt low (past_mark low step origin)) [
        | yes l ↦ omega (arith, base-none low step origin l)
        | no l ↦ omega (arith, base-mark low step origin (omega arith), past-less low step origin h)
      ]

-- ---- the step

module _ (n s : ℕ) (ss : List ℕ) where
  first-here : n ≤ s → first_from n (s ∷ ss) ≡ s
  unfolding first_from
  first-here h = simp (le-leb n s h)

  first-later : s < n → first_from n (s ∷ ss) ≡ first_from n ss
  unfolding first_from
  first-later h = simp (lt-leb n s h)

-- k powers of ten more than p
unfoldable pub powered : ℕ → ℕ → ℕ
powered zero p = p
powered (suc k) p = powered k (10 * p)

-- where the loop stands at the power p: the step is looked for from p on, and k powers more are enough
pub record At (need p : ℕ) : Type 0 where
  pub k : ℕ
  pub owes : first_from need (steps_from 20 1) ≡ first_from need (steps_from (suc k) p)
  pub room : need ≤ 5 * powered k p
  pub some : 0 < p
  pub low : p ≤ 2 * need

pub step_start : (need : ℕ) → 0 < need → need ≤ 2 ^ 64 → At need 1
unfolding powered
step_start need h l = record { k = 19; owes = refl; room = omega arith; some = omega arith; low = omega arith }

step-more : (need p k : ℕ) → need ≤ 5 * powered k p → 5 * p < need → 0 < p
    → first_from need (steps_from 20 1) ≡ first_from need (steps_from (suc k) p) → At need (10 * p)
unfolding steps_from powered
step-more need p zero r l s e = absurd (omega arith)
step-more need p (suc k) r l s e =
    let f : first_from need (steps_from (suc (suc k)) p) ≡ first_from need (steps_from (suc k) (10 * p)) =
    first-later need p (2 * p ∷ 5 * p ∷ steps_from (suc k) (10 * p)) (omega arith)
    ∙ first-later need (2 * p) (5 * p ∷ steps_from (suc k) (10 * p)) (omega arith)
    ∙ first-later need (5 * p) (steps_from (suc k) (10 * p)) l in
    record { k = k; owes = e ∙ f; room = r; some = omega arith; low = omega arith }

pub step-turn : (need p : ℕ) → At need p → 5 * p < need → At need (10 * p)
step-turn need p a l = step-more need p a.k a.room l a.some a.owes

module _ (span p : ℕ) (a : At (span / 14 + 1) p) where
  pub step-one : span / 14 + 1 ≤ p → step_of span ≡ p
  unfolding step_of steps_from
  step-one h = a.owes ∙ first-here (span / 14 + 1) p _ h

  pub step-two : p < span / 14 + 1 → span / 14 + 1 ≤ 2 * p → step_of span ≡ 2 * p
  unfolding step_of steps_from
  step-two l h = a.owes ∙ first-later (span / 14 + 1) p _ l ∙ first-here (span / 14 + 1) (2 * p) _ h

  pub step-five : 2 * p < span / 14 + 1 → span / 14 + 1 ≤ 5 * p → step_of span ≡ 5 * p
  unfolding step_of steps_from
  step-five l h =
      a.owes ∙ first-later (span / 14 + 1) p _ (omega arith) ∙ first-later (span / 14 + 1) (2 * p) _ l ∙ first-here (span / 14 + 1) (5 * p) _ h

-- where a later number is found, so is this one or that
first_reach : (n s : ℕ) (ss : List ℕ) → (s < n → n ≤ first_from n ss) → n ≤ first_from n (s ∷ ss)
first_reach n s ss f =
    elim (dec_lt s n) [
      | yes l ↦ omega (arith, first-later n s ss l, f l)
      | no l ↦ omega (arith, first-here n s ss (omega arith))
    ]

first-enough : (n k p : ℕ) → n ≤ 5 * powered k p → n ≤ first_from n (steps_from (suc k) p)
unfolding steps_from powered
first-enough n zero p h =
    first_reach n p (2 * p ∷ 5 * p ∷ []) (λ l. first_reach n (2 * p) (5 * p ∷ []) (λ m. first_reach n (5 * p) [] (λ o. absurd (omega arith))))
first-enough n (suc k) p h =
    first_reach n p (2 * p ∷ 5 * p ∷ steps_from (suc k) (10 * p)) (λ l.
    first_reach n (2 * p) (5 * p ∷ steps_from (suc k) (10 * p)) (λ m.
    first_reach n (5 * p) (steps_from (suc k) (10 * p)) (λ o. first-enough n k (10 * p) h)))

-- THE STEP: fourteen rows are more than the span
pub step-reaches : (span : ℕ) → span < 2 ^ 64 → span < 14 * step_of span
unfolding step_of powered
step-reaches span h = let m : span / 14 + 1 ≤ step_of span = first-enough (span / 14 + 1) 19 1 (omega arith) in omega arith

-- ---- the scale

-- fifteen rows at most
pub rows_few : (low high origin : ℕ) → high < 2 ^ 64
    → let step = step_of (high - low) in row_of high (base_of low step origin) step < 15
rows_few low high origin h =
    let step : ℕ = step_of (high - low) in
    let base : ℕ = base_of low step origin in
    let s : high - low < 14 * step = step-reaches (high - low) (omega arith) in
    let d : high - base < 15 * step = omega (arith, base-low low step origin, base-near low step origin (omega arith)) in
    let r : row_of high base step ≡ (high - base) / step = row_below high base step (λ e. omega arith) in
    let f : (high - base) / step < 15 = (div-lt_iff_lt-mul {k = step} {x = high - base} {y = 15} (omega arith)).1 d in
    omega arith

pub per-some : (n width : ℕ) → 0 < per_place n width
per-some n width =
    elim (dec_lt 0 width) [
      | yes l ↦ omega (arith, per-wide n width (λ e. omega arith))
      | no l ↦ omega (arith, per-flat n width (omega arith))
    ]

module _ (low high origin n width : ℕ) (per span step base row places : ℕ)
    (p : per ≡ per_place n width) (d : span ≡ high - low) (s : step ≡ step_of span) (b : base ≡ base_of low step origin)
    (r : row ≡ row_of high base step) where
  pub scale-rows : high < 2 ^ 64 → row < 15
  scale-rows h = let e : row ≡ row_of high (base_of low (step_of (high - low)) origin) (step_of (high - low)) = cc in omega (arith, rows_few low high origin h)

  pub scale-is : places ≡ parts_of n per → record { base = base; step = step; rows = row + 1; per = per; places = places } ≡ scale_of low high origin n width
  unfolding scale_of
  scale-is q = cc
