-- Blocks that were cut, by computation: a delta column of 100, 99 and a boolean column; a specification of two bytes; a column whose readings that are there
-- are all absent; a type that no call reads; names; and a column that gets longer in our form. Assumes nothing.
use mathlib.Core.Path.{◌≡◌, refl}
use mathlib.Core.List.{List, [], ◌∷◌}
use Prim.Native.Nat.{ℕ}
use lib.ListN.{take}
use Rattle.leb128.specs.Read.{u64_at, i64_at, u32_at}
use Rattle.leb128.specs.Write.{encoded}
use Rattle.encoding.specs.Walk.{walk}
use Rattle.encoding.specs.Head.{absent_head, begun, head_at}
use Rattle.encoding.specs.Column.{value, repeated, literal_next, literals, run_of, run_at, trace_from, trace}
use Rattle.encoding.specs.Stretches.{literal_of, join_none, join_some, stretches}
use Rattle.encoding.specs.Writer.{all_bytes, stretch_bytes, stretches_bytes, any_present, column_bytes}
use Rattle.delta_decoder.specs.Sums.{held_sum, added, add_up, delta_trace}
use Rattle.delta_encoder.specs.Differences.{differences, delta_bytes}
use Rattle.boolean_decoder.specs.Turns.{counted, turn_at, turns_from, bool_trace}
use Rattle.boolean_encoder.specs.Writer.{add_one, counts, counts_bytes, bool_bytes}
use Rattle.utf8.specs.Utf8.{follow, goes_on, is_utf8}
use Rattle.text.specs.Text.{text_at, text_bytes, is_text}
use Rattle.raw_column.specs.Table.{faulty, rows_at, in_order, plain, sum, parse}
use Rattle.block_frame.specs.Columns.{cut, joined, rows_bytes, table_bytes, block_bytes}
use Rattle.cut_block.specs.Rows.{rows_from, rows_of, parts_of, row_at}
use Rattle.cut_block.specs.Salvaged.{mended, mended_of, mended_all, saved_columns, saved_block, saved, refused, salvaged}

abbrev two : List ℕ
two = 0x02 ∷ 0x13 ∷ 0x04 ∷ 0x24 ∷ 0x02 ∷ 0x7e ∷ 0xe4 ∷ 0x00 ∷ 0x7f ∷ 0x02 ∷ 0x03 ∷ []

abbrev wide : List ℕ
wide = 0x01 ∷ 0x84 ∷ 0x05 ∷ 0x02 ∷ 0x02 ∷ 0x03 ∷ []

abbrev gaps : List ℕ
gaps = 0x01 ∷ 0x12 ∷ 0x06 ∷ 0x00 ∷ 0x02 ∷ 0x7f ∷ 0x09 ∷ 0x00 ∷ 0x01 ∷ []

abbrev other : List ℕ
other = 0x01 ∷ 0x17 ∷ 0x02 ∷ 0xaa ∷ 0xbb ∷ []

abbrev signs : List ℕ
signs = 0x01 ∷ 0x15 ∷ 0x05 ∷ 0x7e ∷ 0x01 ∷ 0x61 ∷ 0x01 ∷ 0x62 ∷ []

-- 1, 2, 2, 3, 4, as values that stand singly
abbrev single : List ℕ
single = 0x01 ∷ 0x12 ∷ 0x06 ∷ 0x7b ∷ 0x01 ∷ 0x02 ∷ 0x02 ∷ 0x03 ∷ 0x04 ∷ []

pub record Cuts : Type 0 where
  pub nothing : parse (take 0 two) ≡ faulty 21 0
  pub before-row : parse (take 3 two) ≡ faulty 21 3
  pub in-number : parse (take 2 wide) ≡ faulty 1 1
  pub table-alone : parse (take 5 two) ≡ faulty 14 0
  pub last_byte : parse (take 10 two) ≡ faulty 14 0
  -- the second reading of the first column is lost, and the second column is not there
  pub in-first : salvaged (take 8 two) ≡ saved (0x02 ∷ 0x13 ∷ 0x03 ∷ 0x24 ∷ 0x00 ∷ 0x7f ∷ 0xe4 ∷ 0x00 ∷ [])
  -- the first column is whole, and of the second the two false readings are kept
  pub in-second : salvaged (take 10 two) ≡ saved (0x02 ∷ 0x13 ∷ 0x04 ∷ 0x24 ∷ 0x01 ∷ 0x7e ∷ 0xe4 ∷ 0x00 ∷ 0x7f ∷ 0x02 ∷ [])
  pub second-row : row_at (take 10 two) 1 ≡ record { spec = 0x24; start = 9; announced = 2; there = 1 }
  pub whole : salvaged two ≡ saved two
  pub no_table : salvaged (take 4 two) ≡ refused 21 4
  -- two absent readings are there, and nothing is written for them
  pub absent-alone : salvaged (take 5 gaps) ≡ saved (0x01 ∷ 0x12 ∷ 0x00 ∷ [])
  pub not-read : salvaged (take 4 other) ≡ saved (0x01 ∷ 0x17 ∷ 0x00 ∷ [])
  -- the second name is cut, and none of it is kept
  pub in-name : salvaged (take 7 signs) ≡ saved (0x01 ∷ 0x15 ∷ 0x03 ∷ 0x7f ∷ 0x01 ∷ 0x61 ∷ [])
  -- five bytes are there, and our form of them has six
  pub longer : salvaged (take 8 single) ≡ saved (0x01 ∷ 0x12 ∷ 0x06 ∷ 0x7f ∷ 0x01 ∷ 0x02 ∷ 0x02 ∷ 0x7f ∷ 0x03 ∷ [])

pub cuts : Cuts
unfolding u64_at i64_at u32_at encoded walk absent_head begun head_at value repeated literal_next literals run_of run_at trace_from trace
    literal_of join_none join_some stretches all_bytes stretch_bytes stretches_bytes any_present column_bytes held_sum added add_up delta_trace
    differences delta_bytes counted turn_at turns_from bool_trace add_one counts counts_bytes bool_bytes rows_at in_order plain sum parse cut
    follow goes_on is_utf8 text_at text_bytes is_text joined rows_bytes table_bytes block_bytes rows_from rows_of parts_of mended mended_of
    mended_all saved_columns saved_block salvaged
cuts =
    record {
      nothing = refl;
      before-row = refl;
      in-number = refl;
      table-alone = refl;
      last_byte = refl;
      in-first = refl;
      in-second = refl;
      second-row = refl;
      whole = refl;
      no_table = refl;
      absent-alone = refl;
      not-read = refl;
      in-name = refl;
      longer = refl;
    }
