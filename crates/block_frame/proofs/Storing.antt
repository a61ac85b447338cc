-- A table's rows, and a column's bytes, as the loops that write them go through them. Assumes nothing.
use Prim.Native.Nat.{ℕ, suc, ◌+◌, ◌≤◌, ◌<◌, min}
use mathlib.Core.Path.{◌≡◌, refl, sym, ap, ◌∙◌}
use mathlib.Core.List.{List, [], ◌∷◌, ◌++◌, append_assoc}
use native.Mathlib.Numerals.{add-one}
use native.Mathlib.Omega.{arith}
use lib.ListN.{length, get_or, set, drop, length-append, length-drop, drop_of_length-le}
use lib.Seq.{sets, drop-cons}
use Rattle.std.proofs.lemmas.List.{drop_more}
use Rattle.leb128.specs.Write.{u64_bytes}
use Rattle.block_frame.specs.Columns.{rows_bytes, table_bytes}

-- the rows from i on
abbrev pub rows_from : List ℕ → List ℕ → ℕ → List ℕ
rows_from specs lens i = rows_bytes (drop i specs) (drop i lens)

module _ (specs lens : List ℕ) where
  -- a row that has this specification and length
  abbrev pub row_bytes : ℕ → ℕ → List ℕ
  row_bytes spec len = u64_bytes spec ++ u64_bytes len

  pub rows_next : (i : ℕ) {spec len : ℕ} → i < length specs → i < length lens → spec ≡ get_or specs i 0 → len ≡ get_or lens i 0
      → rows_from specs lens i ≡ row_bytes spec len ++ rows_from specs lens (i + 1)
  unfolding rows_bytes
  rows_next i {spec} {len} a b e f =
      rw (drop_more specs i 0 a, drop_more lens i 0 b, ← e, ← f) (sym (append_assoc (u64_bytes spec) (u64_bytes len) (rows_from specs lens (i + 1))))

  pub rows-length : (i : ℕ) {spec len : ℕ} → i < length specs → i < length lens → spec ≡ get_or specs i 0 → len ≡ get_or lens i 0
      → length (rows_from specs lens i) ≡ length (u64_bytes spec) + length (u64_bytes len) + length (rows_from specs lens (i + 1))
  rows-length i {spec} {len} a b e f =
      ap length (rows_next i a b e f) ∙ length-append (row_bytes spec len) (rows_from specs lens (i + 1))
      ∙ ap (λ (k : ℕ). k + length (rows_from specs lens (i + 1))) (length-append (u64_bytes spec) (u64_bytes len))

  pub rows-over : (i : ℕ) → i ≡ min (length specs) (length lens) → rows_from specs lens i ≡ []
  unfolding rows_bytes
  rows-over i h = over (drop i specs) (drop i lens) (omega (arith, length-drop i specs, length-drop i lens))
    where
      over : (xs ys : List ℕ) → min (length xs) (length ys) ≡ 0 → rows_bytes xs ys ≡ []
      over [] ys e = refl
      over (x ∷ xs) [] e = refl
      over (x ∷ xs) (y ∷ ys) e = absurd (omega arith)

  pub table-length : length (table_bytes specs lens) ≡ length (u64_bytes (length specs)) + length (rows_bytes specs lens)
  unfolding table_bytes
  table-length = length-append (u64_bytes (length specs)) (rows_bytes specs lens)

-- bytes stored one by one
pub store-start : (out : List ℕ) (at : ℕ) (src : List ℕ) → sets out at src ≡ sets out (at + 0) (drop 0 src)
store-start out at src = let z : at ≡ at + 0 = omega arith in ap (λ (k : ℕ). sets out k src) z

pub store-next : (out : List ℕ) (at i : ℕ) (src : List ℕ) → i < length src
    → sets out (at + i) (drop i src) ≡ sets (set out (at + i) (get_or src i 0)) (at + (i + 1)) (drop (i + 1) src)
store-next out at i src h =
    let e : suc (at + i) ≡ at + (i + 1) = omega arith in
    ap (sets out (at + i)) (drop-cons src i 0 h)
    ∙ ap (λ (k : ℕ). sets (set out (at + i) (get_or src i 0)) k (drop (suc i) src)) e
    ∙ ap (λ (k : ℕ). sets (set out (at + i) (get_or src i 0)) (at + (i + 1)) (drop k src)) (sym (add-one i))

pub store-end : (out : List ℕ) (at i : ℕ) (src : List ℕ) → length src ≤ i → sets out (at + i) (drop i src) ≡ out
store-end out at i src h = ap (sets out (at + i)) (drop_of_length-le src h)
