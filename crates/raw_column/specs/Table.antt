-- 01, "Table and block": what a block's first bytes say. "A u64 count, then per column a u32 specification and a u64 length. .. Checks: 1,
-- 2, 3 and 11 left to right, 11 as soon as the count is read; then 12, 13, 14, 15."
use Rattle.std.specs.Prelude.{ℕ, zero, suc, ◌+◌, ◌-◌, List, [], ◌∷◌, Bool, true, false, cond, not, length, ltb}
use Rattle.leb128.specs.Got.{Got, got, bad}
use Rattle.leb128.specs.Read.{u32_at, u64_at}
use Rattle.column_specification.specs.Key.{key}
use Rattle.column_specification.specs.Specification.{compressed_of}

-- a table: its specifications, its lengths and the position behind it; or a refusal's number and place
pub data Tab : Type 0 where
  tab : List ℕ → List ℕ → ℕ → Tab
  faulty : ℕ → ℕ → Tab

abbrev pub with_number : Got ℕ → (ℕ → ℕ → Tab) → Tab
with_number (got v next) k = k v next
with_number (bad number place) k = faulty number place

abbrev pub with_row : ℕ → ℕ → Tab → Tab
with_row spec len (tab specs lens next) = tab (spec ∷ specs) (len ∷ lens) next
with_row spec len (faulty number place) = faulty number place

-- so many rows from a position on
unfoldable pub rows_at : ℕ → List ℕ → ℕ → Tab
rows_at zero s p = tab [] [] p
rows_at (suc n) s p = with_number (u32_at s p) (λ spec q. with_number (u64_at s q) (λ len r. with_row spec len (rows_at n s r)))

-- "keys must not fall, equal keys pass": the key before being k
unfoldable pub in_order : ℕ → List ℕ → Bool
in_order k [] = true
in_order k (spec ∷ specs) = cond (ltb (key spec) k) false (in_order (key spec) specs)

-- refusal 13: "a specification has bit 3 set"
unfoldable pub plain : List ℕ → Bool
plain [] = true
plain (spec ∷ specs) = cond (compressed_of spec) false (plain specs)

-- "Sums are of whole numbers"
unfoldable pub sum : List ℕ → ℕ
sum [] = 0
sum (len ∷ lens) = len + sum lens

-- 12, 13, 14 and 15, of a block of so many bytes
abbrev pub judged : ℕ → Tab → Tab
judged size (tab specs lens next) =
    cond (not (in_order 0 specs)) (faulty 12 0)
    (cond (not (plain specs)) (faulty 13 0)
    (cond (ltb (size - next) (sum lens)) (faulty 14 0)
    (cond (ltb (sum lens) (size - next)) (faulty 15 0)
    (tab specs lens next))))
judged size (faulty number place) = faulty number place

unfoldable pub parse : List ℕ → Tab
parse s = with_number (u64_at s 0) (λ n q. cond (ltb 64 n) (faulty 11 0) (judged (length s) (rows_at n s q)))
