-- 01's table of examples, E1 to E12 and the edit, as one statement: each row by computation, E6 to E11 both ways, and the edit
-- by the definition that the contract equals. Assumes nothing.
use Prim.Native.Nat.{◌-◌, ◌^◌}
use mathlib.Core.Path.{◌≡◌, refl}
use mathlib.Core.List.{[], ◌∷◌, ◌++◌}
use mathlib.Core.Option.{none, some}
use lib.IntN.{pos, negsuc}
use lib.ListN.{replicate}
use Rattle.leb128.specs.Got.{got, bad}
use Rattle.leb128.specs.Read.{u64_at, i64_at, u32_at}
use Rattle.leb128.specs.Write.{encoded}
use Rattle.encoding.specs.Walk.{Ending, fault, walk, outcome, outcome_of}
use Rattle.encoding.specs.Head.{absent_head, begun, head_at}
use Rattle.encoding.specs.Column.{value, repeated, literal_next, literals, run_of, run_at, trace_from, trace}
use Rattle.encoding.specs.Given.{slot_list, bad_flag}
use Rattle.encoding.specs.Stretches.{literal_of, join_none, join_some, stretches}
use Rattle.encoding.specs.Writer.{all_bytes, stretch_bytes, stretches_bytes, any_present, column_bytes}
use Rattle.delta_decoder.specs.Sums.{held_sum, added, add_up, delta_trace}
use Rattle.delta_encoder.specs.Differences.{differences, delta_bytes, wide_at}
use Rattle.boolean_decoder.specs.Turns.{counted, turn_at, turns_from, bool_trace}
use Rattle.boolean_encoder.specs.Writer.{add_one, counts, counts_bytes, bool_bytes}
use Rattle.raw_column.specs.Table.{rows_at, in_order, plain, sum, parse}
use Rattle.block_frame.specs.Columns.{cut, joined, rows_bytes, table_bytes, block_bytes, new_block}
use Rattle.splice.specs.Contract.{optional_edit}
use Rattle.splice.specs.Edit.{accepted, serves, given_optional, edited}
use Rattle.splice.specs.declared.End.TheVariants as ending
use Rattle.splice.specs.Kinds.{integer, delta, boolean}

pub record Examples : Type 0 where
  pub e1 : u64_at (0x80 ∷ 0x01 ∷ []) 0 ≡ got 128 2
  pub e2 : u64_at (0x80 ∷ 0x00 ∷ []) 0 ≡ bad 3 0
  pub e3 : u64_at (replicate 9 0xff ++ 0x02 ∷ []) 0 ≡ bad 2 0
  pub e3-ending-01 : u64_at (replicate 9 0xff ++ 0x01 ∷ []) 0 ≡ got (2 ^ 64 - 1) 10
  pub e4 : i64_at (0xc0 ∷ 0x00 ∷ []) 0 ≡ got (pos 64) 2
  pub e4-alone : i64_at (0x40 ∷ []) 0 ≡ got (negsuc 63) 1
  pub e5 : i64_at (replicate 9 0x80 ++ 0x7f ∷ []) 0 ≡ got (negsuc (2 ^ 63 - 1)) 10
  pub e5-ending-01 : i64_at (replicate 9 0x80 ++ 0x01 ∷ []) 0 ≡ bad 2 0
  pub e6 : integer.reads (0x7f ∷ 0x01 ∷ 0x02 ∷ 0x02 ∷ []) ≡ record { readings = some 1 ∷ some 2 ∷ some 2 ∷ []; ending = Ending.sound }
  pub e6-written : integer.writes (some 1 ∷ some 2 ∷ some 2 ∷ []) ≡ 0x7f ∷ 0x01 ∷ 0x02 ∷ 0x02 ∷ []
  pub e7 : integer.reads (0x00 ∷ 0x02 ∷ 0x03 ∷ 0x05 ∷ []) ≡ record { readings = none ∷ none ∷ some 5 ∷ some 5 ∷ some 5 ∷ []; ending = Ending.sound }
  pub e7-written : integer.writes (none ∷ none ∷ some 5 ∷ some 5 ∷ some 5 ∷ []) ≡ 0x00 ∷ 0x02 ∷ 0x03 ∷ 0x05 ∷ []
  pub e8 : integer.reads (0x00 ∷ 0x03 ∷ []) ≡ record { readings = none ∷ none ∷ none ∷ []; ending = Ending.sound }
  pub e8-written : integer.writes (none ∷ none ∷ none ∷ []) ≡ []
  pub e9 :
      delta.reads (0x7f ∷ 0xd0 ∷ 0x00 ∷ 0x02 ∷ 0x00 ∷ [])
      ≡ record { readings = some (pos 80) ∷ some (pos 80) ∷ some (pos 80) ∷ []; ending = Ending.sound }
  pub e9-written : delta.writes (some (pos 80) ∷ some (pos 80) ∷ some (pos 80) ∷ []) ≡ 0x7f ∷ 0xd0 ∷ 0x00 ∷ 0x02 ∷ 0x00 ∷ []
  pub e10 :
      delta.reads (0x7f ∷ 0x05 ∷ 0x00 ∷ 0x01 ∷ 0x7f ∷ 0x01 ∷ [])
      ≡ record { readings = some (pos 5) ∷ none ∷ some (pos 6) ∷ []; ending = Ending.sound }
  pub e10-written : delta.writes (some (pos 5) ∷ none ∷ some (pos 6) ∷ []) ≡ 0x7f ∷ 0x05 ∷ 0x00 ∷ 0x01 ∷ 0x7f ∷ 0x01 ∷ []
  pub e11 : boolean.reads (0x00 ∷ 0x01 ∷ 0x02 ∷ []) ≡ record { readings = 1 ∷ 0 ∷ 0 ∷ []; ending = Ending.sound }
  pub e11-written : boolean.writes (1 ∷ 0 ∷ 0 ∷ []) ≡ 0x00 ∷ 0x01 ∷ 0x02 ∷ []
  pub e12 : integer.reads (0x02 ∷ []) ≡ record { readings = []; ending = fault 21 1 }
  -- column 0, range 1 to 2, new reading 81, as a value and its presence byte; three slots, and an output of eight bytes
  pub edit :
      optional_edit delta (0x01 ∷ 0x13 ∷ 0x05 ∷ 0x7f ∷ 0xd0 ∷ 0x00 ∷ 0x02 ∷ 0x00 ∷ []) 0 1 (ending.At 2) (pos 81 ∷ []) (1 ∷ []) 3 3 8
      ≡ accepted 3 (some (pos 80) ∷ some (pos 81) ∷ some (pos 80) ∷ []) (0x01 ∷ 0x13 ∷ 0x05 ∷ 0x7d ∷ 0xd0 ∷ 0x00 ∷ 0x01 ∷ 0x7f ∷ [])

pub examples : Examples
unfolding u64_at i64_at u32_at encoded walk outcome outcome_of absent_head begun head_at value repeated literal_next literals run_of run_at trace_from trace
    literal_of join_none join_some stretches all_bytes stretch_bytes stretches_bytes any_present column_bytes held_sum added add_up delta_trace
    differences delta_bytes wide_at counted turn_at turns_from bool_trace add_one counts counts_bytes bool_bytes rows_at in_order plain sum parse cut
    joined rows_bytes table_bytes block_bytes new_block slot_list bad_flag serves given_optional edited
examples =
    record {
      e1 = refl;
      e2 = refl;
      e3 = refl;
      e3-ending-01 = refl;
      e4 = refl;
      e4-alone = refl;
      e5 = refl;
      e5-ending-01 = refl;
      e6 = refl;
      e6-written = refl;
      e7 = refl;
      e7-written = refl;
      e8 = refl;
      e8-written = refl;
      e9 = refl;
      e9-written = refl;
      e10 = refl;
      e10-written = refl;
      e11 = refl;
      e11-written = refl;
      e12 = refl;
      edit = refl;
    }
