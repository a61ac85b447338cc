-- 01, "Editing", over the kind of column. "Order: table faults; 16; 17; 18 for end below start; 8; column faults; 18 for start beyond the
-- list; 5 for the result; 9 when slots are fewer than the longer of old and new list; 7; 10." 02, [12]: "Refuse an edit whose end lies beyond
-- the list with 18, where the start is checked."
use Rattle.std.specs.Prelude.{ℕ, max, List, ◌++◌, Bool, false, cond, ◌&&◌, ltb, leb, eqb, length, get_or, take, drop, Result, Ok, Err}
use Rattle.std.proofs.Math.Option.{Option, none, some}
use Rattle.refusal.specs.Number.{number_of}
use Rattle.refusal.specs.declared.Refusal.{Refusal}
use Rattle.leb128.specs.Answer.{Answer, done, refused}
use Rattle.column_specification.specs.Served.{integer_type, delta_type, boolean_type, text_type}
use Rattle.column_specification.specs.Specification.{type_of}
use Rattle.encoding.specs.Limit.{limit}
use Rattle.encoding.specs.Walk.{outcome}
use Rattle.encoding.specs.Given.{bad_flag}
use Rattle.raw_column.specs.Table.{Tab, tab, faulty, parse}
use Rattle.raw_column.specs.declared.Table.{Table}
use Rattle.block_frame.specs.Columns.{new_block}
use Rattle.column_part.specs.Part.{start_of}
use Rattle.raw_column.specs.Rows.{no_table, opened}
use Rattle.slots.specs.Splice.{spliced, in_slots}
use Rattle.text.specs.Given.{names_given}
use Rattle.splice.specs.Kind.{Kind}
use Rattle.splice.specs.declared.ColumnKind.{ColumnKind}
use Rattle.splice.specs.declared.ColumnKind.TheVariants as kind
use Rattle.splice.specs.declared.Spliced as code
use Rattle.splice.specs.declared.End.{End}
use Rattle.splice.specs.declared.End.TheVariants as ending

-- what an edit comes to: stopped, and nothing is changed; late, with 7 or 10, where the slots hold the new list; accepted, with the new block.
-- `old` is the old list's length
pub data Edited (A : Type 0) : Type 0 where
  stop : ℕ → ℕ → Edited A
  late : ℕ → ℕ → ℕ → List A → Edited A
  accepted : ℕ → List A → List ℕ → Edited A

-- where a range ends in a list of so many readings: at the index given, or, for the call of 02, [12], "that takes only a start", with the list
abbrev pub end_in : End → ℕ → ℕ
end_in (ending.At e) old = e
end_in ending.OfList old = old

-- "18 for end below start", which needs no list
abbrev pub below : ℕ → End → Bool
below start (ending.At e) = ltb e start
below start ending.OfList = false

-- refusal 17: is the specification's type one of the kind?
unfoldable pub serves : ColumnKind → ℕ → Bool
serves kind.Integer spec = integer_type (type_of spec)
serves kind.Delta spec = delta_type (type_of spec)
serves kind.Boolean spec = boolean_type (type_of spec)
serves kind.Text spec = text_type (type_of spec)

-- refusal 8 of an edit: the lengths of the slots and of the new list first, then the first bad byte of the new readings
abbrev pub flags_in : Option ℕ → Answer
flags_in none = done 0
flags_in (some i) = refused 8 i

unfoldable pub given_optional : ℕ → ℕ → ℕ → List ℕ → Answer
given_optional values flags new newFlags = cond (eqb values flags && eqb new (length newFlags)) (flags_in (bad_flag 0 newFlags)) (refused 8 0)

unfoldable pub given_boolean : List ℕ → Answer
given_boolean new = flags_in (bad_flag 0 new)

-- the same of names: three slices of slots; "for new names 20 stands directly after 8"
unfoldable pub given_text : ℕ → ℕ → ℕ → List ℕ → List ℕ → List ℕ → List ℕ → Answer
given_text starts lens flags bytes newStarts newLens newFlags =
    cond (eqb starts lens && eqb lens flags) (names_given bytes newStarts newLens newFlags) (refused 8 0)

module _ {A : Type 0} (K : Kind A) where
  -- 7 and 10: the slots hold the new list, or are left as found
  abbrev pub refuses : ℕ → ℕ → ℕ → List A → Edited A
  refuses number place old xs = cond K.keeps (stop number place) (late number place old xs)

  -- 7, 10, and the new block, of which `block` gives the bytes for a column's
  abbrev pub finished : ℕ → List A → ℕ → (List ℕ → List ℕ) → Option ℕ → Edited A
  finished old xs room block (some i) = refuses 7 i old xs
  finished old xs room block none =
      cond (leb (length (block (K.writes xs))) room) (accepted old xs (block (K.writes xs))) (refuses 10 0 old xs)

  -- 18 for the start and the end, 5 and 9, of a column that reads as `old`
  abbrev pub edit_list : List A → ℕ → End → List A → ℕ → ℕ → (List ℕ → List ℕ) → Edited A
  edit_list old start end new slots room block =
      let n = length old in
      let xs = spliced old start (end_in end n) new in
      cond (ltb n start) (stop 18 0)
      (cond (ltb n (end_in end n)) (stop 18 0)
      (cond (ltb limit (length xs)) (stop 5 0)
      (cond (ltb slots (max n (length xs))) (stop 9 0)
      (finished n xs room block (K.wide xs)))))

  abbrev pub read_by : Answer → List A → (List A → Edited A) → Edited A
  read_by (done n) old k = k old
  read_by (refused number place) old k = stop number place

  -- 8 and column faults
  abbrev pub edit_column : List ℕ → ℕ → End → Answer → List A → ℕ → ℕ → (List ℕ → List ℕ) → Edited A
  edit_column column start end (refused number place) new slots room block = stop number place
  edit_column column start end (done g) new slots room block =
      read_by (outcome (K.reads column)) (K.reads column).readings (λ old. edit_list old start end new slots room block)

  -- 17 and 18 for end below start
  abbrev pub edit_row : List ℕ → ℕ → ℕ → End → Answer → List A → ℕ → ℕ → (List ℕ → List ℕ) → Edited A
  edit_row column spec start end given new slots room block =
      cond (serves K.kind spec)
      (cond (below start end) (stop 18 0) (edit_column column start end given new slots room block))
      (stop 17 0)

  -- table faults and 16
  abbrev pub edit_in : List ℕ → ℕ → ℕ → End → Answer → List A → ℕ → ℕ → Tab → Edited A
  edit_in s position start end given new slots room (faulty number place) = stop number place
  edit_in s position start end given new slots room (tab specs lens next) =
      cond (ltb position (length specs))
      (edit_row (take (get_or lens position 0) (drop (start_of lens next position) s)) (get_or specs position 0) start end given new slots room
      (λ column. new_block s specs lens next position column))
      (stop 16 0)

  unfoldable pub edited : List ℕ → ℕ → ℕ → End → Answer → List A → ℕ → ℕ → Edited A
  edited s position start end given new slots room = edit_in s position start end given new slots room (parse s)

-- what is answered: the new block's length, its table, as anyone reads it, and the new column's readings; or the refusal with a table of no rows
pub record Spliced : Type 0 where
  pub table : Table
  pub number : ℕ
  pub place : ℕ
  pub len : ℕ
  pub readings : ℕ

abbrev pub refusal : ℕ → ℕ → Spliced
refusal number place = record { table = no_table; number = number; place = place; len = 0; readings = 0 }

abbrev pub acceptance : ℕ → List ℕ → Spliced
acceptance readings block =
    record { table = (opened (parse block)).table; number = 0; place = 0; len = length block; readings = readings }

-- what the code's answer stands for
abbrev pub spliced_of : Result code.Spliced Refusal → Spliced
spliced_of (Ok r) = record { table = r.table; number = 0; place = 0; len = r.len; readings = r.readings }
spliced_of (Err e) = refusal (number_of e.0) e.1

-- the same of any bytes: where they are no block, the table's refusal
abbrev pub block_in : ℕ → List ℕ → Tab → Spliced
block_in readings block (tab specs lens next) = acceptance readings block
block_in readings block (faulty number place) = refusal number place

unfoldable pub block_answer : ℕ → List ℕ → Spliced
block_answer readings block = block_in readings block (parse block)

-- how many readings a column of so many bytes has that was written for a list of so many. 02, [6]: "the count its new bytes read as, so an
-- all-absent result stores 0"; that they do read as so many is proved (`counted_table`, proofs/Truth.antt)
unfoldable pub readings_in : ℕ → ℕ → ℕ
readings_in size listed = cond (eqb size 0) 0 listed

abbrev pub readings_of : {A : Type 0} → Kind A → List A → ℕ
readings_of K xs = readings_in (length (K.writes xs)) (length xs)

abbrev pub answered : {A : Type 0} → Kind A → Edited A → Spliced
answered K (stop number place) = refusal number place
answered K (late number place old xs) = refusal number place
answered K (accepted old xs block) = acceptance (readings_of K xs) block

-- what is left behind: a slot slice that holds f of the list (z where nothing is any more), and the output
abbrev pub slots_left : {A B : Type 0} → B → (List A → List B) → Edited A → List B → List B
slots_left z f (stop number place) slots = slots
slots_left z f (late number place old xs) slots = in_slots z slots old (f xs)
slots_left z f (accepted old xs block) slots = in_slots z slots old (f xs)

abbrev pub out_left : {A : Type 0} → Edited A → List ℕ → List ℕ
out_left (stop number place) out = out
out_left (late number place old xs) out = out
out_left (accepted old xs block) out = block ++ drop (length block) out
