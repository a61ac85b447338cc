-- What is promised of a block s that was cut behind k bytes, its table among them: what is saved of it, in the words of the readers.
use Rattle.std.specs.Prelude.{ℕ, ◌+◌, ◌≤◌, ◌<◌, ◌⊎◌, ◌≡◌, List, [], map, Bool, true, false, cond, ◌||◌, length, get_or, take}
use Rattle.std.proofs.Math.Option.{Option, none}
use Rattle.column_specification.specs.Served.{integer_type, delta_type, boolean_type, text_type}
use Rattle.column_specification.specs.Specification.{type_of}
use Rattle.encoding.specs.Walk as walk
use Rattle.raw_column.specs.Table.{tab, parse}
use Rattle.column_part.specs.Part.{start_of, part_at, bytes_of}
use Rattle.block_frame.specs.Columns.{table_bytes}
use Rattle.salvage.specs.Kept.{Prefix}
use Rattle.salvage.specs.Way.{Way, integers, deltas, booleans, names}
use Rattle.cut_block.specs.Rows.{parts_of}
use Rattle.cut_block.specs.Salvaged.{saved_columns, saved_block, saved, salvaged}

-- ---- one column: c of the block, the part p of it that is there, and c' of the salvage

-- "nothing invented": c' is sound; its readings are those that c begins with; they are all that p reads as, or else none of those is present and c' has no
-- bytes; and where c is sound and all of it is there, c' is c
pub record Kept {A : Type 0} (W : Way A) (c p c' : List ℕ) : Type 0 where
  pub sound : (W.reads c').ending ≡ walk.sound
  pub prefix : Prefix (W.reads c').readings (W.reads c).readings
  pub all : ((W.reads c').readings ≡ (W.reads p).readings) ⊎ ((W.present (W.reads p).readings ≡ false) × (c' ≡ []) × ((W.reads c').readings ≡ []))
  pub same : (W.reads c).ending ≡ walk.sound → p ≡ c → c' ≡ c

-- ---- all columns

-- the column at a position, as the calls hand it on
abbrev pub column_at : List ℕ → ℕ → List ℕ
column_at s i = bytes_of s (part_at s i)

-- of a block s with these specifications, and what is saved of its first k bytes: in no column of a kind is anything invented
abbrev pub NothingInvented : {A : Type 0} → Way A → (ℕ → Bool) → List ℕ → List ℕ → ℕ → Type 0
NothingInvented W serves s specs k =
    (i : ℕ) → i < length specs → serves (type_of (get_or specs i 0)) ≡ true
    → Kept W (column_at s i) (get_or (parts_of (take k s)) i []) (column_at (saved_block (take k s)) i)

-- and in no column of optional readings is an absent one made: what was saved has it where the block has it, at the same index
abbrev pub NoneMade : {A : Type 0} → Way (Option A) → (ℕ → Bool) → List ℕ → List ℕ → ℕ → Type 0
NoneMade {A} W serves s specs k =
    (i : ℕ) → i < length specs → serves (type_of (get_or specs i 0)) ≡ true
    → (j : ℕ) → j < length (W.reads (column_at (saved_block (take k s)) i)).readings → (d : Option A)
    → get_or (W.reads (column_at (saved_block (take k s)) i)).readings j d ≡ none
    → (j < length (W.reads (column_at s i)).readings) × (get_or (W.reads (column_at s i)).readings j d ≡ none)

-- no call reads columns of this type
abbrev pub unread : ℕ → Bool
unread t = cond (integer_type t || (delta_type t || (boolean_type t || text_type t))) false true

-- THE STATEMENT
pub record Saves (s specs lens : List ℕ) (next k : ℕ) : Type 0 where
  -- a block is saved, which the table reader accepts, with the same specifications; and it is its own salvage
  pub saves : salvaged (take k s) ≡ saved (saved_block (take k s))
  pub opens : parse (saved_block (take k s))
      ≡ tab specs (map length (saved_columns (take k s))) (length (table_bytes specs (map length (saved_columns (take k s)))))
  pub again : salvaged (saved_block (take k s)) ≡ saved (saved_block (take k s))
  -- what is there of a column is all of it where it ends within the k bytes
  pub there : (i : ℕ) → start_of lens next i + get_or lens i 0 ≤ k → get_or (parts_of (take k s)) i [] ≡ column_at s i
  -- nothing is invented, by kinds
  pub of_integers : NothingInvented integers integer_type s specs k
  pub of_deltas : NothingInvented deltas delta_type s specs k
  pub of_booleans : NothingInvented booleans boolean_type s specs k
  pub of_names : NothingInvented names text_type s specs k
  -- and of a type that no call reads a column is as it was where all of it is there, and else empty
  pub of_others : (i : ℕ) → i < length specs → unread (type_of (get_or specs i 0)) ≡ true
      → ((get_or (parts_of (take k s)) i [] ≡ column_at s i) × (column_at (saved_block (take k s)) i ≡ column_at s i))
      ⊎ ((get_or (parts_of (take k s)) i [] ≡ column_at s i → ⊥) × (column_at (saved_block (take k s)) i ≡ []))
  -- no absent reading is made
  pub no_integer_made : NoneMade integers integer_type s specs k
  pub no_delta_made : NoneMade deltas delta_type s specs k
  pub no_name_made : NoneMade names text_type s specs k
