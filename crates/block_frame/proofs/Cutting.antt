-- Data cut into columns, joined again, and one of the columns set. Assumes nothing.
use Prim.Native.Nat.{ℕ, zero, suc, ◌+◌, ◌≤◌, ◌<◌}
use mathlib.Core.Path.{◌≡◌, refl, sym, ap, ◌∙◌}
use mathlib.Core.List.{List, [], ◌∷◌, ◌++◌, append_assoc, map}
use native.Mathlib.Omega.{arith}
use lib.ListN.{length, get_or, set, take, drop, length-append, length-drop, take-append-drop}
use lib.Seq.{take_at, drop_at, drop-drop, length-take-le, take-add}
use Rattle.raw_column.specs.Table.{sum}
use Rattle.block_frame.specs.Columns.{cut, joined}

-- each length is within the sum
pub sum-at : (lens : List ℕ) (i : ℕ) → get_or lens i 0 ≤ sum lens
unfolding sum
sum-at [] i = omega arith
sum-at (len ∷ lens) zero = omega arith
sum-at (len ∷ lens) (suc i) = let r = sum-at lens i in omega arith

-- as many columns as lengths, each of its length
pub cut-count : (lens d : List ℕ) → length (cut lens d) ≡ length lens
unfolding cut
cut-count [] d = refl
cut-count (len ∷ lens) d = ap suc (cut-count lens (drop len d))

pub cut-lens : (lens d : List ℕ) → sum lens ≤ length d → map length (cut lens d) ≡ lens
unfolding cut sum
cut-lens [] d h = refl
cut-lens (len ∷ lens) d h =
    let a : length (take len d) ≡ len = length-take-le len d (omega arith) in
    let b : map length (cut lens (drop len d)) ≡ lens = cut-lens lens (drop len d) (omega (arith, length-drop len d)) in
    rw (a, b)

-- each column stands behind those before it
pub cut_at : (lens d : List ℕ) (i : ℕ) → get_or (cut lens d) i [] ≡ take (get_or lens i 0) (drop (sum (take i lens)) d)
unfolding cut sum
cut_at [] d i = refl
cut_at (len ∷ lens) d zero = refl
cut_at (len ∷ lens) d (suc i) = cut_at lens (drop len d) i ∙ ap (take (get_or lens i 0)) (drop-drop (sum (take i lens)) len d)

-- columns joined are the data that they were cut from, and are cut from it again
pub cut-joined : (lens d : List ℕ) → sum lens ≡ length d → joined (cut lens d) ≡ d
unfolding cut joined sum
cut-joined [] [] e = refl
cut-joined [] (x ∷ d) e = absurd (omega arith)
cut-joined (len ∷ lens) d e = rw (cut-joined lens (drop len d) (omega (arith, length-drop len d))) (take-append-drop len d)

pub joined-cut : (columns : List (List ℕ)) → cut (map length columns) (joined columns) ≡ columns
unfolding cut joined
joined-cut [] = refl
joined-cut (c ∷ cs) = rw (take_at c (joined cs) (length c) refl, drop_at c (joined cs) (length c) refl, joined-cut cs)

pub joined_length : (columns : List (List ℕ)) → length (joined columns) ≡ sum (map length columns)
unfolding joined sum
joined_length [] = refl
joined_length (c ∷ cs) = length-append c (joined cs) ∙ ap (λ (k : ℕ). length c + k) (joined_length cs)

-- one column set: its length, and the data before it, its bytes and the data behind it
pub set-lens : (columns : List (List ℕ)) (i : ℕ) (column : List ℕ) → map length (set columns i column) ≡ set (map length columns) i (length column)
set-lens [] i column = refl
set-lens (c ∷ cs) zero column = refl
set-lens (c ∷ cs) (suc i) column = ap (λ (l : List ℕ). length c ∷ l) (set-lens cs i column)

pub set-joined : (lens d : List ℕ) (i : ℕ) (column : List ℕ) → sum lens ≡ length d → i < length lens
    → joined (set (cut lens d) i column) ≡ take (sum (take i lens)) d ++ (column ++ drop (sum (take i lens) + get_or lens i 0) d)
unfolding cut joined sum
set-joined [] d i column e h = absurd (omega arith)
set-joined (len ∷ lens) d zero column e h =
    let z : 0 + len ≡ len = omega arith in
    rw (z, cut-joined lens (drop len d) (omega (arith, length-drop len d)))
set-joined (len ∷ lens) d (suc i) column e h =
    let r = set-joined lens (drop len d) i column (omega (arith, length-drop len d)) (omega arith) in
    let a = take-add len (sum (take i lens)) d in
    let m : len + (sum (take i lens) + get_or lens i 0) ≡ len + sum (take i lens) + get_or lens i 0 = omega arith in
    let b : drop (sum (take i lens) + get_or lens i 0) (drop len d) ≡ drop (len + sum (take i lens) + get_or lens i 0) d =
    drop-drop (sum (take i lens) + get_or lens i 0) len d ∙ ap (λ (k : ℕ). drop k d) m in
    rw (r, a, ← b)
    (sym (append_assoc (take len d) (take (sum (take i lens)) (drop len d)) (column ++ drop (sum (take i lens) + get_or lens i 0) (drop len d))))
