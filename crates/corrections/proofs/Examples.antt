-- Lookups worked out from 02 by hand, against the definitions: whose fault is told, also where the corrections have the row; a correction row of
-- length 0; the first of two rows of one number; and neither. Assumes nothing.
use mathlib.Core.Path.{◌≡◌, refl}
use mathlib.Core.List.{List, [], ◌∷◌}
use Prim.Native.Nat.{ℕ}
use Rattle.leb128.specs.Read.{u32_at, u64_at}
use Rattle.raw_column.specs.Table.{rows_at, in_order, plain, sum, parse}
use Rattle.column_part.specs.Part.{no_part, row_of}
use Rattle.corrections.specs.Over.{corrected, scanned, neither, over, bytes_over}

-- column 0x12 of two bytes; the same row without a byte; two rows of the number 0x12
abbrev scan : List ℕ
scan = 0x01 ∷ 0x12 ∷ 0x02 ∷ 0x7f ∷ 0x05 ∷ []

abbrev emptied : List ℕ
emptied = 0x01 ∷ 0x12 ∷ 0x00 ∷ []

abbrev twice : List ℕ
twice = 0x02 ∷ 0x12 ∷ 0x00 ∷ 0x12 ∷ 0x02 ∷ 0x7f ∷ 0x05 ∷ []

-- 02-readings, point 27: the first scan is judged even where the corrections have the row
pub scan-judged : over emptied [] 0x12 ≡ scanned (no_part 21 0)
unfolding over parse u32_at u64_at rows_at in_order plain sum row_of
scan-judged = refl

pub corrections-first : over (0x80 ∷ []) [] 0x12 ≡ corrected (no_part 1 0)
unfolding over parse u64_at
corrections-first = refl

pub hidden : bytes_over emptied scan 0x12 ≡ []
unfolding over parse u32_at u64_at rows_at in_order plain sum row_of
hidden = refl

pub hidden-by-first : bytes_over twice scan 0x12 ≡ []
unfolding over parse u32_at u64_at rows_at in_order plain sum row_of
hidden-by-first = refl

pub shown : bytes_over (0x00 ∷ []) scan 0x12 ≡ 0x7f ∷ 0x05 ∷ []
unfolding over parse u32_at u64_at rows_at in_order plain sum row_of
shown = refl

pub in-neither : over emptied scan 0x13 ≡ neither
unfolding over parse u32_at u64_at rows_at in_order plain sum row_of
in-neither = refl
