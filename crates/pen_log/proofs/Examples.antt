-- Examples of a replay, each by computation: those of the readings of 02, and others of every refusal. Assumes nothing.
use Prim.Native.Nat.{ℕ, ◌^◌, ◌-◌}
use mathlib.Core.Path.{◌≡◌, refl}
use mathlib.Core.List.{List, [], ◌∷◌, ◌++◌, map}
use mathlib.Core.Option.{none, some}
use lib.IntN.{pos, negsuc}
use lib.ListN.{replicate}
use Rattle.leb128.specs.Answer.{within}
use Rattle.leb128.specs.Got.{got, bad}
use Rattle.leb128.specs.Read.{u64_at, i64_at}
use Rattle.leb128.specs.Write.{encoded}
use Rattle.encoding.specs.Walk.{walk, outcome, outcome_of}
use Rattle.encoding.specs.Head.{absent_head, begun, head_at}
use Rattle.encoding.specs.Column.{value, repeated, literal_next, literals, run_of, run_at, trace_from, trace}
use Rattle.encoding.specs.Slots.{decoding}
use Rattle.encoding.specs.Stretches.{literal_of, join_none, join_some, stretches}
use Rattle.encoding.specs.Writer.{all_bytes, stretch_bytes, stretches_bytes, any_present, column_bytes}
use Rattle.delta_decoder.specs.Sums.{held_sum, added, add_up, delta_trace}
use Rattle.delta_encoder.specs.Differences.{differences, delta_bytes, wide_at}
use Rattle.splice.specs.Contract.{slot_in}
use Rattle.splice.specs.Edit.{stop, late, accepted, slots_left}
use Rattle.pen_log.specs.Entry.{insert, change, word_at, signed, depth_at, entry_at}
use Rattle.pen_log.specs.Log.{entries_up_to, entries_from, all_applied, longest}
use Rattle.pen_log.specs.Replay.{judge, replayed}

-- an entry's bytes: a position below 256, and a depth by its lowest byte and what fills the others
abbrev at : ℕ → ℕ → List ℕ
at kind i = kind ∷ i ∷ 0 ∷ 0 ∷ 0 ∷ []

abbrev deep : ℕ → ℕ → ℕ → ℕ → List ℕ
deep kind i low rest = at kind i ++ (low ∷ replicate 7 rest)

pub record Examples : Type 0 where
  -- bytes: the lowest first, and the sign
  pub bytes : entry_at (4 ∷ 1 ∷ 2 ∷ 3 ∷ 4 ∷ 0xfe ∷ replicate 7 0xff) 0 ≡ got (change 0x04030201 (negsuc 1)) 13
  pub deepest : entry_at (at 1 0 ++ (replicate 7 0 ++ 0x80 ∷ [])) 0 ≡ got (insert 0 (negsuc (2 ^ 63 - 1))) 13
  pub cut : entry_at (at 1 0 ++ replicate 7 0) 0 ≡ bad 23 0
  pub unknown : entry_at (9 ∷ at 5 0) 1 ≡ bad 23 1
  -- 02's readings, 28: the only reading removed, and its slot cleared
  pub emptied : replayed (0x7f ∷ 0x05 ∷ []) (at 3 0) 1 1 0 ≡ accepted 1 [] []
  pub cleared : slots_left (pos 0) (map (slot_in (pos 0))) (replayed (0x7f ∷ 0x05 ∷ []) (at 3 0) 1 1 0) (pos 9 ∷ []) ≡ pos 0 ∷ []
  -- 29: 9 comes before the next entry, which is cut
  pub one_by_one : replayed [] (at 2 0 ++ (5 ∷ [])) 0 0 0 ≡ stop 9 0
  pub then-cut : replayed [] (at 2 0 ++ (5 ∷ [])) 1 1 0 ≡ stop 23 5
  -- 80, 80, 80: a reading in front, one at the end, the second removed, the last changed; of the five slots in use three hold the final list
  pub all_kinds :
      replayed (0x7f ∷ 0xd0 ∷ 0x00 ∷ 0x02 ∷ 0x00 ∷ []) (deep 1 0 0x4f 0 ++ (at 2 4 ++ (at 3 1 ++ (at 3 1 ++ deep 4 2 0xff 0xff)))) 5 5 8
      ≡ accepted 5 (some (pos 79) ∷ some (pos 80) ∷ some (negsuc 0) ∷ []) (0x7d ∷ 0xcf ∷ 0x00 ∷ 0x01 ∷ 0xaf ∷ 0x7f ∷ [])
  -- positions: an insert at the end is taken, one behind it and a removal there are not
  pub behind-end : replayed (0x7f ∷ 0x05 ∷ []) (deep 1 2 6 0) 9 9 9 ≡ stop 23 0
  pub remove-end : replayed (0x7f ∷ 0x05 ∷ []) (at 2 0 ++ at 3 2) 9 9 9 ≡ stop 23 5
  pub change-end : replayed (0x7f ∷ 0x05 ∷ []) (deep 4 1 6 0) 9 9 9 ≡ stop 23 0
  pub at-end : replayed (0x7f ∷ 0x05 ∷ []) (deep 1 1 6 0) 2 2 3 ≡ accepted 2 (some (pos 5) ∷ some (pos 6) ∷ []) (0x7e ∷ 0x05 ∷ 0x01 ∷ [])
  -- an absent reading is an existing one
  pub absent-there : replayed (0x7f ∷ 0x05 ∷ []) (at 2 1 ++ deep 4 1 5 0) 2 2 9 ≡ accepted 2 (some (pos 5) ∷ some (pos 5) ∷ []) (0x7e ∷ 0x05 ∷ 0x00 ∷ [])
  -- the order: 8, column faults, 9 for the old list, entries, 7, 10; the list on the way counts for 9
  pub uneven : replayed (0x02 ∷ []) (9 ∷ []) 1 2 0 ≡ stop 8 0
  pub faulty : replayed (0x02 ∷ []) (9 ∷ []) 0 0 0 ≡ stop 21 1
  pub few-slots : replayed (0x7f ∷ 0x05 ∷ []) (9 ∷ []) 0 0 0 ≡ stop 9 0
  pub on-the-way : replayed (0x7f ∷ 0x05 ∷ []) (at 2 0 ++ at 3 0) 1 1 9 ≡ stop 9 0
  pub too_wide :
      replayed (0x7f ∷ 0x7e ∷ []) (at 1 0 ++ (replicate 7 0xff ++ 0x7f ∷ [])) 2 2 0 ≡ late 7 1 2 (some (pos (2 ^ 63 - 1)) ∷ some (negsuc 1) ∷ [])
  pub too_long : replayed (0x7f ∷ 0x05 ∷ []) (at 3 0 ++ deep 1 0 6 0) 1 1 1 ≡ late 10 0 1 (some (pos 6) ∷ [])
  pub nothing : replayed [] [] 0 0 0 ≡ accepted 0 [] []

pub examples : Examples
unfolding within u64_at i64_at encoded walk outcome outcome_of absent_head begun head_at value repeated literal_next literals run_of run_at trace_from trace decoding
    literal_of join_none join_some stretches all_bytes stretch_bytes stretches_bytes any_present column_bytes held_sum added add_up delta_trace differences delta_bytes
    wide_at word_at signed depth_at entry_at entries_up_to entries_from all_applied longest judge replayed
examples =
    record {
      bytes = refl;
      deepest = refl;
      cut = refl;
      unknown = refl;
      emptied = refl;
      cleared = refl;
      one_by_one = refl;
      then-cut = refl;
      all_kinds = refl;
      behind-end = refl;
      remove-end = refl;
      change-end = refl;
      at-end = refl;
      absent-there = refl;
      uneven = refl;
      faulty = refl;
      few-slots = refl;
      on-the-way = refl;
      too_wide = refl;
      too_long = refl;
      nothing = refl;
    }
