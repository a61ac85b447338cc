-- What the private functions that fill the slots and write the new block ask and promise. No public promise cites it.
use Rattle.std.specs.Prelude.{ℕ, ◌+◌, ◌-◌, ◌≤◌, ◌<◌, ◌≡◌, List, ◌++◌, map, true, false, length, get_or, take, drop}
use Rattle.std.proofs.Math.Option.{none}
use Rattle.leb128.specs.Answer.{done}
use Rattle.encoding.specs.Limit.{limit}
use Rattle.encoding.specs.Walk.{outcome}
use Rattle.encoding.specs.Given.{bad_flag, slot_list}
use Rattle.raw_column.specs.Table.{Tab, tab, faulty, parse}
use Rattle.block_frame.specs.Columns.{new_block}
use Rattle.column_part.specs.Part.{start_of}
use Rattle.slots.specs.Splice.{spliced, in_slots}
use Rattle.splice.specs.Kind.{Kind}
use Rattle.splice.specs.Edit.{Edited, stop, end_in, below, serves, finished, answered, out_left, Spliced}
use Rattle.splice.specs.Contract.{slot_in}
use Rattle.splice.specs.Steps.{result_length}
use Rattle.splice.specs.declared.ColumnKind.{ColumnKind}
use Rattle.splice.specs.declared.End.{End}

-- the row at a position, of a table that was accepted
pub record HasRow (s : List ℕ) (position : ℕ) : Type 0 where
  pub specs : List ℕ
  pub lens : List ℕ
  pub next : ℕ
  pub is : parse s ≡ tab specs lens next
  pub there : position < length specs

-- a row of a type that the kind serves, its column from `at` up to `till`
pub record Located (kind : ColumnKind) (s : List ℕ) (position at till : ℕ) : Type 0 where
  pub row : HasRow s position
  pub served : serves kind (get_or row.specs position 0) ≡ true
  pub at_is : at ≡ start_of row.lens row.next position
  pub till_is : till ≡ start_of row.lens row.next position + get_or row.lens position 0
  pub ends : till ≤ length s

-- an edit that no check stops before the slots are filled: its column has `old` readings, and the new list `len`
pub record Ready {A : Type 0} (K : Kind A) (s : List ℕ) (position start : ℕ) (end : End) (new slots at till old len : ℕ) : Type 0 where
  pub located : Located K.kind s position at till
  pub reads : outcome (K.reads (take (till - at) (drop at s))) ≡ done old
  pub starts : start ≤ old
  pub not_below : below start end ≡ false
  pub within : end_in end old ≤ old
  pub long : len ≡ result_length old start end new
  pub few : len ≤ limit
  pub old_fits : old ≤ slots
  pub new_fits : len ≤ slots

-- slots with room for a list whose range is replaced
pub record Fits (start end old new flags values present : ℕ) : Type 0 where
  pub ordered : start ≤ end
  pub within : end ≤ old
  pub old_fits : old ≤ values
  pub new_fits : start + new + (old - end) ≤ values
  pub even : present ≡ values
  pub paired : flags ≡ new

-- both slices with the range of their list replaced, absent new readings as 0
pub record Replaced {A : Type 0} (nought : A) (old start end : ℕ) (new : List A) (flags : List ℕ) (v v' : List A) (p p' : List ℕ) : Type 0 where
  pub values : v' ≡ in_slots nought v old (spliced (take old v) start end (map (slot_in nought) (slot_list new flags)))
  pub presence : p' ≡ in_slots 0 p old (spliced (take old p) start end flags)

-- a list that can be written but for 7 and 10
pub record Good (values : ℕ) (flags : List ℕ) : Type 0 where
  pub even : length flags ≡ values
  pub flagged : bad_flag 0 flags ≡ none
  pub few : values ≤ limit

-- one that nothing refuses, in an output with room for its column behind `at`
pub record Writable {A : Type 0} (K : Kind A) (xs : List A) (values : ℕ) (flags : List ℕ) (at out : ℕ) : Type 0 where
  pub good : Good values flags
  pub narrow : K.wide xs ≡ none
  pub room : at + length (K.writes xs) ≤ out

abbrev pub put_behind : ℕ → List ℕ → List ℕ → List ℕ
put_behind at bytes out = take at out ++ (bytes ++ drop (length bytes) (drop at out))

-- the list xs written as the column at the position: 7, 10, or the new block
abbrev pub finished_in : {A : Type 0} → Kind A → List ℕ → ℕ → List A → ℕ → Tab → Edited A
finished_in K s position xs room (tab specs lens next) = finished K 0 xs room (new_block s specs lens next position) (K.wide xs)
finished_in K s position xs room (faulty number place) = stop number place

unfoldable pub finished_at : {A : Type 0} → Kind A → List ℕ → ℕ → List A → ℕ → Edited A
finished_at K s position xs room = finished_in K s position xs room (parse s)

pub record Finished {A : Type 0} (K : Kind A) (s : List ℕ) (position : ℕ) (xs : List A) (out out' : List ℕ) (r : Spliced) : Type 0 where
  pub answer : r ≡ answered K (finished_at K s position xs (length out))
  pub output : out' ≡ out_left (finished_at K s position xs (length out)) out
