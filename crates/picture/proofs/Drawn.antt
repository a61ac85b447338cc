-- WHAT A PICTURE SHOWS, over the definitions alone: every present reading lies within the range of its stretch, so that no deep sign is smoothed
-- away; a gap is drawn where all readings of a place are absent, and only there; the places fit the width, the rows are fifteen at most, and
-- each present reading has a place and a row, where its trace is drawn. Assumes nothing.
use mathlib.Core.Path.{◌≡◌, refl, sym, ◌∙◌, ap}
use mathlib.Core.List.{List, [], ◌∷◌, foldl}
use mathlib.Core.Bool.{Bool, true, false, cond}
use Prim.Native.Nat.{ℕ, zero, suc, ◌+◌, ◌-◌, ◌*◌, ◌/◌, ◌%◌, ◌^◌, ◌≤◌, ◌<◌, min, max}
use native.Mathlib.Decide.{dec_lt}
use native.Mathlib.Omega.{arith}
use native.Mathlib.Nat.{le-div_iff_mul-le, div-lt_iff_lt-mul, div-mul-le_self, lt-div-mul-add, div-add-mod', mod-lt, mod-mod}
use native.Mathlib.Nat.{mul-add-mod_self_right, mul_comm, suc-mul}
use lib.Dec.{eqb}
use lib.ListN.{length, get_or, take}
use lib.Seq.{slice, length-slice, get_or-take, get_or-drop}
use borrow.Author.Tests.{eq-eqb, ne_eqb}
use Rattle.picture.specs.declared.Scale.{Scale}
use Rattle.picture.specs.declared.Stretch.{Stretch}
use Rattle.picture.specs.Scale.{steps_from, first_from, step_of, past_mark, base_of, parts_of, per_place, row_of, depth_of, scale_of}
use Rattle.picture.specs.Shade.{shade_at}
use Rattle.picture.specs.Stretch.{present_of, least_of, greatest_of, shown, stretch_of, stretch_at}
use Rattle.picture.proofs.Marks.{parts_none, parts-some, per-wide, per-some, row-flat, row_below, rows_few, depth-fits, past-within}
use Rattle.picture.proofs.Marks.{past-around, base-mark}
use Rattle.picture.proofs.Ranges.{of-all}
use Rattle.picture.proofs.Shading.{shade-whole, shade-part}

-- ---- a stretch of readings

-- a depth lies within the range of a stretch
pub record Within (s : Stretch) (v : ℕ) : Type 0 where
  pub some : 0 < s.here
  pub above : s.low ≤ v
  pub below : v ≤ s.high

min-first : (m : ℕ) (xs : List ℕ) → foldl min m xs ≤ m
min-first m [] = omega arith
min-first m (x ∷ xs) = omega (arith, min-first (min m x) xs)

min-each : (m : ℕ) (xs : List ℕ) (i : ℕ) → i < length xs → foldl min m xs ≤ get_or xs i 0
min-each m [] i l = absurd (omega arith)
min-each m (x ∷ xs) zero l = omega (arith, min-first (min m x) xs)
min-each m (x ∷ xs) (suc i) l = min-each (min m x) xs i (omega arith)

least-each : (xs : List ℕ) (i : ℕ) → i < length xs → least_of xs ≤ get_or xs i 0
unfolding least_of
least-each [] i l = absurd (omega arith)
least-each (x ∷ xs) zero l = min-first x xs
least-each (x ∷ xs) (suc i) l = min-each x xs i (omega arith)

max-first : (m : ℕ) (xs : List ℕ) → m ≤ foldl max m xs
max-first m [] = omega arith
max-first m (x ∷ xs) = omega (arith, max-first (max m x) xs)

max-each : (m : ℕ) (xs : List ℕ) (i : ℕ) → i < length xs → get_or xs i 0 ≤ foldl max m xs
max-each m [] i l = absurd (omega arith)
max-each m (x ∷ xs) zero l = omega (arith, max-first (max m x) xs)
max-each m (x ∷ xs) (suc i) l = max-each (max m x) xs i (omega arith)

greatest-each : (xs : List ℕ) (i : ℕ) → i < length xs → get_or xs i 0 ≤ greatest_of xs
unfolding greatest_of
greatest-each xs i l = max-each 0 xs i l

-- a value stands in a list
record Found (xs : List ℕ) (v : ℕ) : Type 0 where
  pub place : ℕ
  pub within : place < length xs
  pub is : get_or xs place 0 ≡ v

present-found : (vs ps : List ℕ) (j : ℕ) → j < length vs → j < length ps → (get_or ps j 0 ≡ 0 → ⊥) → Found (present_of vs ps) (get_or vs j 0)
unfolding present_of
present-found [] ps j l m n = absurd (omega arith)
present-found (v ∷ vs) [] j l m n = absurd (omega arith)
present-found (v ∷ vs) (p ∷ ps) zero l m n = rw (ne_eqb p 0 n) (record { place = 0; within = omega arith; is = refl })
present-found (v ∷ vs) (p ∷ ps) (suc j) l m n = go (eqb p 0) (present-found vs ps j (omega arith) (omega arith) n)
  where
    go : (t : Bool) → Found (present_of vs ps) (get_or vs j 0) → Found (cond t (present_of vs ps) (v ∷ present_of vs ps)) (get_or vs j 0)
    go true f = f
    go false f = record { place = suc f.place; within = omega (arith, f.within); is = f.is }

found_within : (xs : List ℕ) (v gone : ℕ) → Found xs v → Within (shown xs gone) v
found_within xs v gone f =
    let e = f.is in
    record {
      some = omega (arith, f.within);
      above = omega (arith, least-each xs f.place f.within);
      below = omega (arith, greatest-each xs f.place f.within);
    }

none-present : (vs ps : List ℕ) → ((j : ℕ) → j < length ps → get_or ps j 0 ≡ 0) → length (present_of vs ps) ≡ 0
unfolding present_of
none-present [] ps h = refl
none-present (v ∷ vs) [] h = refl
none-present (v ∷ vs) (p ∷ ps) h = rw (eq-eqb p 0 (h 0 (omega arith))) (none-present vs ps (λ j l. h (suc j) (omega arith)))

slice_at : (a e j : ℕ) (xs : List ℕ) → a + j < e → get_or (slice a e xs) j 0 ≡ get_or xs (a + j) 0
slice_at a e j xs l = get_or-drop a (take e xs) j 0 ∙ get_or-take e xs (a + j) 0 l

module _ (values present : List ℕ) (a e : ℕ) (v : e ≤ length values) (p : e ≤ length present) where
  -- NO DEEP SIGN IS SMOOTHED AWAY: every present reading of a stretch lies within its range
  pub covers : (k : ℕ) → a ≤ k → k < e → (get_or present k 0 ≡ 0 → ⊥) → Within (stretch_of values present a e) (get_or values k 0)
  covers k h l n =
      let j : ℕ = k - a in
      let q : a + j ≡ k = omega arith in
      let x : get_or (slice a e values) j 0 ≡ get_or values k 0 = slice_at a e j values (omega arith) ∙ ap (λ (i : ℕ). get_or values i 0) q in
      let y : get_or (slice a e present) j 0 ≡ get_or present k 0 = slice_at a e j present (omega arith) ∙ ap (λ (i : ℕ). get_or present i 0) q in
      let f = present-found (slice a e values) (slice a e present) j
      (omega (arith, length-slice a e values v)) (omega (arith, length-slice a e present p)) (λ z. n (sym y ∙ z)) in
      rw (of-all values present a e v p, ← x) (found_within (present_of (slice a e values) (slice a e present)) (get_or (slice a e values) j 0) _ f)

  -- A GAP: no reading counts as present only where each is absent, and wherever each is
  pub gap-absent : (stretch_of values present a e).here ≡ 0 → (k : ℕ) → a ≤ k → k < e → get_or present k 0 ≡ 0
  gap-absent z k h l =
      elim (dec_lt 0 (get_or present k 0)) [ yes m ↦ absurd (omega (arith, (covers k h l (λ e. omega arith)).some)) | no m ↦ omega arith ]

  pub absent-gap : ((k : ℕ) → a ≤ k → k < e → get_or present k 0 ≡ 0) → (stretch_of values present a e).here ≡ 0
  absent-gap h =
      rw (of-all values present a e v p)
      (none-present (slice a e values) (slice a e present)
      (λ j l. let m : a + j < e = omega (arith, length-slice a e present p) in slice_at a e j present m ∙ h (a + j) (omega arith) m))

-- ---- places

-- n readings fit the width
pub per-enough : (n width : ℕ) → 0 < width → n ≤ per_place n width * width
per-enough n width h =
    elim (dec_lt 0 n) [
      | yes l ↦
          (let m : n - 1 < ((n - 1) / width + 1) * width = (div-lt_iff_lt-mul {k = width} {x = n - 1} {y = (n - 1) / width + 1} h).0 (omega arith) in
          let q : per_place n width ≡ (n - 1) / width + 1 =
          omega (arith, per-wide n width (λ e. omega arith), parts-some n width (λ e. omega arith)) in
          rw q (omega arith))
      | no l ↦ omega arith
    ]

-- the places are at most as many as the width
pub places-fit : (n width : ℕ) → 0 < width → parts_of n (per_place n width) ≤ width
places-fit n width h =
    elim (dec_lt 0 n) [
      | yes l ↦
          (let per : ℕ = per_place n width in
          let m : n ≤ width * per = rw (mul_comm width per) (per-enough n width h) in
          let q : (n - 1) / per < width = (div-lt_iff_lt-mul {k = per} {x = n - 1} {y = width} (per-some n width)).1 (omega arith) in
          omega (arith, parts-some n per (λ e. omega arith)))
      | no l ↦ omega (arith, parts_none n (per_place n width) (omega arith))
    ]

-- each reading has a place
pub place-there : (n per i : ℕ) → 0 < per → i < n → i / per < parts_of n per
place-there n per i h l =
    let m : i / per * per ≤ i = div-mul-le_self i per in
    let q : i / per ≤ (n - 1) / per = (le-div_iff_mul-le {k = per} {x = i / per} {y = n - 1} h).1 (omega arith) in
    omega (arith, parts-some n per (λ e. omega arith))

-- and lies in that place's stretch
pub place-covers : (values present : List ℕ) (per i : ℕ) → 0 < per → length values ≤ length present → i < length values
    → (get_or present i 0 ≡ 0 → ⊥) → Within (stretch_at values present per (i / per)) (get_or values i 0)
unfolding stretch_at
place-covers values present per i h p l n =
    let m : i / per * per ≤ i = div-mul-le_self i per in
    let q : i < i / per * per + per = lt-div-mul-add {a = i} {b = per} h in
    covers values present (min (i / per * per) (length values)) (min (i / per * per + per) (length values)) (omega arith) (omega arith) i
    (omega arith) (omega arith) n

-- ---- rows

-- a deeper reading has no higher row
pub row-order : (v w base step : ℕ) → v ≤ w → row_of v base step ≤ row_of w base step
row-order v w base step h =
    elim (dec_lt 0 step) [
      | yes l ↦
          (let m : (v - base) / step * step ≤ v - base = div-mul-le_self (v - base) step in
          let q : (v - base) / step ≤ (w - base) / step = (le-div_iff_mul-le {k = step} {x = (v - base) / step} {y = w - base} l).1 (omega arith) in
          omega (arith, row_below v base step (λ e. omega arith), row_below w base step (λ e. omega arith)))
      | no l ↦ omega (arith, row-flat v base step (omega arith))
    ]

-- a depth lies in its row: at the depth where the row begins, or less than a step below
pub row-begins : (v base step : ℕ) → 0 < step → base ≤ v → v < 2 ^ 64
    → (depth_of (row_of v base step) base step ≤ v) × (v < depth_of (row_of v base step) base step + step)
row-begins v base step h b l =
    let r : row_of v base step ≡ (v - base) / step = row_below v base step (λ e. omega arith) in
    let m : (v - base) / step * step ≤ v - base = div-mul-le_self (v - base) step in
    let q : v - base < (v - base) / step * step + step = lt-div-mul-add {a = v - base} {b = step} h in
    let d : depth_of ((v - base) / step) base step ≡ base + (v - base) / step * step = depth-fits ((v - base) / step) base step (omega arith) in
    rw (r, d) (omega arith, omega arith)

-- the scale has fifteen rows at most
pub fifteen : (low high origin n width : ℕ) → high < 2 ^ 64 → (scale_of low high origin n width).rows ≤ 15
unfolding scale_of
fifteen low high origin n width h = omega (arith, rows_few low high origin h)

-- rows begin at marks
pub base-marked : (low step origin : ℕ) → 0 < step → past_mark low step origin ≤ low → base_of low step origin % step ≡ origin % step
base-marked low step origin h l =
    elim (dec_lt (low % step) (origin % step)) [
      | yes m ↦ around (low / step) (div-add-mod' low step) m
      | no m ↦
          marked (low / step)
          (omega (arith, base-mark low step origin l, past-within low step origin (omega arith), div-add-mod' low step))
    ]
  where
    marked : (k : ℕ) → base_of low step origin ≡ k * step + origin % step → base_of low step origin % step ≡ origin % step
    marked k e = ap (λ (n : ℕ). n % step) e ∙ mul-add-mod_self_right k step (origin % step) ∙ mod-mod origin step

    around : (k : ℕ) → k * step + low % step ≡ low → low % step < origin % step → base_of low step origin % step ≡ origin % step
    around zero e m = absurd (omega (arith, past-around low step origin m, mod-lt origin {m = step} h))
    around (suc k) e m =
        marked k
        (omega (arith, base-mark low step origin l, past-around low step origin m, mod-lt origin {m = step} h, suc-mul k step))

-- a yes and a no have a row each
pub yes-no : (n width : ℕ) → let c = scale_of 0 1 0 n width in (c.base ≡ 0) × (c.step ≡ 1) × (c.rows ≡ 2)
unfolding scale_of step_of steps_from first_from base_of past_mark row_of
yes-no n width = (refl, refl, refl)

-- ---- the picture

-- the reading i has a place and a row of the picture, and the trace is drawn there: neither air nor clay
pub record Drawn (c : Scale) (values present : List ℕ) (i : ℕ) : Type 0 where
  pub place : i / c.per < c.places
  pub row : row_of (get_or values i 0) c.base c.step < c.rows
  pub trace : 0 < shade_at c (row_of (get_or values i 0) c.base c.step) (stretch_at values present c.per (i / c.per))
  pub light : shade_at c (row_of (get_or values i 0) c.base c.step) (stretch_at values present c.per (i / c.per)) < 3

pub trace-within : (c : Scale) (s : Stretch) (v : ℕ) → Within s v
    → (0 < shade_at c (row_of v c.base c.step) s) × (shade_at c (row_of v c.base c.step) s < 3)
unfolding shade_at
trace-within c s v w =
    let row : ℕ = row_of v c.base c.step in
    let top : ℕ = row_of s.low c.base c.step in
    let bottom : ℕ = row_of s.high c.base c.step in
    let t : top ≤ row = row-order s.low v c.base c.step w.above in
    let b : row ≤ bottom = row-order v s.high c.base c.step w.below in
    let n : s.here ≡ 0 → ⊥ = λ e. omega (arith, w.some) in
    elim (dec_lt 0 s.gone) [
      | yes l ↦ (let e = shade-part row top bottom s.here s.gone n t b (λ z. omega arith) in (omega arith, omega arith))
      | no l ↦ (let e = shade-whole row top bottom s.here s.gone n t b (omega arith) in (omega arith, omega arith))
    ]

-- EVERY PRESENT READING IS DRAWN, in the picture of all readings
pub drawn : (values present : List ℕ) (origin width i : ℕ) → length values ≤ length present → i < length values → (get_or present i 0 ≡ 0 → ⊥)
    → let all = stretch_of values present 0 (length values) in Drawn (scale_of all.low all.high origin (length values) width) values present i
unfolding scale_of
drawn values present origin width i p l n =
    let all = stretch_of values present 0 (length values) in
    let c = scale_of all.low all.high origin (length values) width in
    let v = get_or values i 0 in
    let w : Within all v = covers values present 0 (length values) (omega arith) p i (omega arith) l n in
    let h : 0 < c.per = per-some (length values) width in
    let t = trace-within c (stretch_at values present c.per (i / c.per)) v (place-covers values present c.per i h p l n) in
    let o = row-order v all.high c.base c.step w.below in
    record { place = place-there (length values) c.per i h l; row = omega arith; trace = t.0; light = t.1 }
