-- The scale of a picture: which depths its rows stand for, and how many readings a place across stands for.
use Rattle.std.specs.Prelude.{ℕ, zero, suc, ◌+◌, ◌-◌, ◌*◌, ◌/◌, ◌%◌, ◌^◌, min, max, cond, List, [], ◌∷◌, eqb, leb}
use Rattle.picture.specs.declared.Scale.{Scale}

-- p, 2 p, 5 p, then ten times as much, and so on, through k powers of ten
unfoldable pub steps_from : ℕ → ℕ → List ℕ
steps_from zero p = []
steps_from (suc k) p = p ∷ 2 * p ∷ 5 * p ∷ steps_from k (10 * p)

-- the first of some numbers that is at least n; 0 where none is
unfoldable pub first_from : ℕ → List ℕ → ℕ
first_from n [] = 0
first_from n (s ∷ ss) = let rest = first_from n ss in cond (leb n s) s rest

-- how many depths a row has: the first of 1, 2, 5, 10, 20, 50 .. of which fourteen are more than the span
unfoldable pub step_of : ℕ → ℕ
step_of span = first_from (span / 14 + 1) (steps_from 20 1)

-- how far a depth lies past the last mark at or before it; there is a mark at `origin`, and one at every step from there
unfoldable pub past_mark : ℕ → ℕ → ℕ → ℕ
past_mark depth step origin =
    cond (leb (origin % step) (depth % step)) (depth % step - origin % step) (depth % step + (step - origin % step))

-- where the first row begins: at the last mark at or before the least depth, or at that depth, where the mark is no number
unfoldable pub base_of : ℕ → ℕ → ℕ → ℕ
base_of low step origin = cond (leb (past_mark low step origin) low) (low - past_mark low step origin) low

-- how many parts of this size n readings have, a smaller one at the end counted
unfoldable pub parts_of : ℕ → ℕ → ℕ
parts_of n size = cond (eqb n 0) 0 ((n - 1) / size + 1)

-- how many readings a place stands for, so that n fit the width; at least one, and one where there is no width
unfoldable pub per_place : ℕ → ℕ → ℕ
per_place n width = cond (eqb width 0) 1 (max 1 (parts_of n width))

-- the row of a depth, counted from 0; row 0 has the depths above the base too, and all depths where there is no step
unfoldable pub row_of : ℕ → ℕ → ℕ → ℕ
row_of depth base step = cond (eqb step 0) 0 ((depth - base) / step)

-- the depth at which a row begins, or the greatest number where that is more
unfoldable pub depth_of : ℕ → ℕ → ℕ → ℕ
depth_of row base step = min (base + row * step) (2 ^ 64 - 1)

-- the scale for n readings from the depth `low` to the depth `high`, over at most so many places: rows down to the deepest reading's
unfoldable pub scale_of : ℕ → ℕ → ℕ → ℕ → ℕ → Scale
scale_of low high origin n width =
    let step = step_of (high - low) in
    let base = base_of low step origin in
    let per = per_place n width in
    record { base = base; step = step; rows = row_of high base step + 1; per = per; places = parts_of n per }
