-- 02, [3]: "For table and column faults desk staff want a reason: which row (for 12 the one that falls, for 13 the first; 11, 14, 15 and a bad column count name none), .. and
-- the facts that make the refusal true." Of the table of a block.
use Rattle.std.specs.Prelude.{ℕ, zero, suc, ◌-◌, List, [], ◌∷◌, cond, not, ltb, length, get_or, drop}
use Rattle.std.proofs.Math.Option.{Option, none, some}
use Rattle.leb128.specs.Got.{Got, got, bad}
use Rattle.leb128.specs.Read.{u32_at, u64_at}
use Rattle.column_specification.specs.Key.{key}
use Rattle.column_specification.specs.Specification.{compressed_of}
use Rattle.raw_column.specs.Table.{Tab, tab, faulty, rows_at, in_order, plain, sum}
use Rattle.reason.specs.Reason.{number_bytes}

-- the facts that make a refusal true: how many bytes of the number at the place are there; for 11 the count; for 12 the specification before and the one that falls; for
-- 13 the specification; for 14 and 15 what the lengths add up to, and how many bytes of data there are
pub data Facts : Type 0 where
  bytes : ℕ → Facts
  columns : ℕ → Facts
  falls : ℕ → ℕ → Facts
  compressed : ℕ → Facts
  lengths : ℕ → ℕ → Facts

-- "which row": where none is named that is said
pub data Row : Type 0 where
  nowhere : Row
  row : ℕ → Row

-- number and place as the ordinary call has them
pub record TableReason : Type 0 where
  pub number : ℕ
  pub place : ℕ
  pub row : Row
  pub facts : Facts

abbrev pub because : ℕ → ℕ → Row → Facts → Option TableReason
because number place r facts = some (record { number = number; place = place; row = r; facts = facts })

-- ---- which row

abbrev pub passed : Got ℕ → (ℕ → ℕ → ℕ) → ℕ
passed (got v next) k = k v next
passed (bad number place) k = 0

-- how many of so many rows from a position on read before one that does not
unfoldable pub rows_read : ℕ → List ℕ → ℕ → ℕ
rows_read zero s p = 0
rows_read (suc n) s p = passed (u32_at s p) (λ spec q. passed (u64_at s q) (λ len r. suc (rows_read n s r)))

-- "for 12 the one that falls": the first whose key is below the one before it, that being k; the length where none is
unfoldable pub first_fall : ℕ → List ℕ → ℕ
first_fall k [] = 0
first_fall k (spec ∷ specs) = let rest = suc (first_fall (key spec) specs) in cond (ltb (key spec) k) 0 rest

-- "for 13 the first": with bit 3 set; the length where there is none
unfoldable pub first_compressed : List ℕ → ℕ
first_compressed [] = 0
first_compressed (spec ∷ specs) = let rest = suc (first_compressed specs) in cond (compressed_of spec) 0 rest

-- ---- the reason

-- of a number that does not read
abbrev pub unread : List ℕ → ℕ → ℕ → Row → Option TableReason
unread s number place r = because number place r (bytes (number_bytes 0 (drop place s)))

abbrev pub fall_at : List ℕ → ℕ → Option TableReason
fall_at specs i = because 12 0 (row i) (falls (get_or specs (i - 1) 0) (get_or specs i 0))

abbrev pub compressed_at : List ℕ → ℕ → Option TableReason
compressed_at specs i = because 13 0 (row i) (compressed (get_or specs i 0))

-- 14 and 15, of lengths and so many bytes of data; and a sound table has none
abbrev pub lengths_reason : List ℕ → ℕ → Option TableReason
lengths_reason lens room =
    cond (ltb room (sum lens)) (because 14 0 nowhere (lengths (sum lens) room))
    (cond (ltb (sum lens) room) (because 15 0 nowhere (lengths (sum lens) room)) none)

-- 12, 13, 14 and 15, of rows that read, in a block of so many bytes
abbrev pub judged_reason : ℕ → List ℕ → List ℕ → ℕ → Option TableReason
judged_reason size specs lens next =
    cond (not (in_order 0 specs)) (fall_at specs (first_fall 0 specs))
    (cond (not (plain specs)) (compressed_at specs (first_compressed specs))
    (lengths_reason lens (size - next)))

-- behind k rows that read
abbrev pub rows_reason : List ℕ → ℕ → Tab → Option TableReason
rows_reason s k (tab specs lens next) = judged_reason (length s) specs lens next
rows_reason s k (faulty number place) = unread s number place (row k)

abbrev pub count_reason : List ℕ → Got ℕ → Option TableReason
count_reason s (got n q) = cond (ltb 64 n) (because 11 0 nowhere (columns n)) (rows_reason s (rows_read n s q) (rows_at n s q))
count_reason s (bad number place) = unread s number place nowhere

-- the reason of the fault of a block's table
unfoldable pub table_reason : List ℕ → Option TableReason
table_reason s = count_reason s (u64_at s 0)
