-- Reasons worked out from 02 by hand, against the definitions: a number that is not there, or cut, or overlong, in the count and in a row; 11; 12, the later row, before any 13; 13; 14 and
-- 15, also where the lengths pass 2^64; and a sound table has none. Assumes nothing.
use mathlib.Core.Path.{◌≡◌, refl}
use mathlib.Core.List.{[], ◌∷◌}
use mathlib.Core.Option.{none}
use Rattle.leb128.specs.Read.{u32_at, u64_at}
use Rattle.raw_column.specs.Table.{rows_at, in_order, plain, sum}
use Rattle.reason.specs.Reason.{number_bytes}
use Rattle.table_reason.specs.TableReason.{
  bytes,
  columns,
  falls,
  compressed,
  lengths,
  nowhere,
  row,
  because,
  rows_read,
  first_fall,
  first_compressed,
  table_reason,
}

pub empty : table_reason [] ≡ because 21 0 nowhere (bytes 0)
unfolding table_reason u64_at number_bytes
empty = refl

pub overlong-count : table_reason (0xc1 ∷ 0x00 ∷ []) ≡ because 3 0 nowhere (bytes 2)
unfolding table_reason u64_at number_bytes
overlong-count = refl

pub no_row : table_reason (0x01 ∷ []) ≡ because 21 1 (row 0) (bytes 0)
unfolding table_reason u32_at u64_at rows_at rows_read number_bytes
no_row = refl

pub no_length : table_reason (0x02 ∷ 0x13 ∷ 0x00 ∷ 0x23 ∷ []) ≡ because 21 4 (row 1) (bytes 0)
unfolding table_reason u32_at u64_at rows_at rows_read number_bytes
no_length = refl

pub cut-specification : table_reason (0x02 ∷ 0x13 ∷ 0x00 ∷ 0x93 ∷ []) ≡ because 1 3 (row 1) (bytes 1)
unfolding table_reason u32_at u64_at rows_at rows_read number_bytes
cut-specification = refl

pub too_many : table_reason (0x41 ∷ []) ≡ because 11 0 nowhere (columns 65)
unfolding table_reason u64_at
too_many = refl

pub later-row : table_reason (0x03 ∷ 0x23 ∷ 0x00 ∷ 0x13 ∷ 0x00 ∷ 0x03 ∷ 0x00 ∷ []) ≡ because 12 0 (row 1) (falls 0x23 0x13)
unfolding table_reason u32_at u64_at rows_at in_order first_fall
later-row = refl

pub falls-before-compressed : table_reason (0x02 ∷ 0x2b ∷ 0x00 ∷ 0x13 ∷ 0x00 ∷ []) ≡ because 12 0 (row 1) (falls 0x2b 0x13)
unfolding table_reason u32_at u64_at rows_at in_order first_fall
falls-before-compressed = refl

pub first-compressed : table_reason (0x03 ∷ 0x13 ∷ 0x00 ∷ 0x1b ∷ 0x00 ∷ 0x2b ∷ 0x00 ∷ []) ≡ because 13 0 (row 1) (compressed 0x1b)
unfolding table_reason u32_at u64_at rows_at in_order plain first_compressed
first-compressed = refl

pub too_long : table_reason (0x01 ∷ 0x13 ∷ 0x02 ∷ 0xff ∷ []) ≡ because 14 0 nowhere (lengths 2 1)
unfolding table_reason u32_at u64_at rows_at in_order plain sum
too_long = refl

pub past_all : table_reason (0x02 ∷ 0x13 ∷ 0xff ∷ 0xff ∷ 0xff ∷ 0xff ∷ 0xff ∷ 0xff ∷ 0xff ∷ 0xff ∷ 0xff ∷ 0x01 ∷ 0x23 ∷ 0x01 ∷ [])
    ≡ because 14 0 nowhere (lengths 18446744073709551616 0)
unfolding table_reason u32_at u64_at rows_at in_order plain sum
past_all = refl

pub too_short : table_reason (0x01 ∷ 0x13 ∷ 0x00 ∷ 0xff ∷ []) ≡ because 15 0 nowhere (lengths 0 1)
unfolding table_reason u32_at u64_at rows_at in_order plain sum
too_short = refl

pub sound-table : table_reason (0x01 ∷ 0x13 ∷ 0x01 ∷ 0xff ∷ []) ≡ none
unfolding table_reason u32_at u64_at rows_at in_order plain sum
sound-table = refl
