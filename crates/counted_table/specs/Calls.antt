-- 02, [6]: the edits of 01 and [1], lent the table of their block: "an edit stores the count its new bytes read as, so an all-absent result stores 0";
-- 25 stands directly after table faults; "a refused count or edit gives the table back as lent, where 01 has no rows".
use Rattle.std.specs.Prelude.{ℕ, ◌≡◌, List, map, cond, eqb, length}
use Rattle.std.proofs.Math.Option.{Option}
use Rattle.encoding.specs.Given.{slot_list}
use Rattle.text.specs.Given.{name_list}
use Rattle.raw_column.specs.Table.{parse}
use Rattle.raw_column.specs.Rows.{opened}
use Rattle.splice.specs.Kind.{Kind}
use Rattle.splice.specs.Edit.{Edited, stop, late, accepted, given_optional, given_boolean, given_text, edit_in, readings_of, slots_left, out_left, Spliced}
use Rattle.splice.specs.Contract.{slot_in, flag_in, itself, starts_in, length_in}
use Rattle.splice.specs.declared.End.{End}
use Rattle.counted_table.specs.Counts.{stored, lent_tab}
use Rattle.counted_table.specs.declared.CountedTable.{CountedTable}
use Rattle.counted_table.specs.declared.edits.CountedSpliced.{CountedSpliced}

-- what is answered: the new block's length, and its table with the new column's count stored and the others as lent; or the refusal, and the table as lent
abbrev pub unspliced : CountedTable → ℕ → ℕ → CountedSpliced
unspliced lent number place = record { number = number; place = place; len = 0; table = lent }

abbrev pub spliced_as : {A : Type 0} → Kind A → CountedTable → ℕ → Edited A → CountedSpliced
spliced_as K lent position (stop number place) = unspliced lent number place
spliced_as K lent position (late number place old xs) = unspliced lent number place
spliced_as K lent position (accepted old xs block) =
    record { number = 0; place = 0; len = length block; table = stored lent (opened (parse block)).table position (readings_of K xs) }

-- the same of what an edit without a table answers
abbrev pub spliced_by : CountedTable → ℕ → Spliced → CountedSpliced
spliced_by lent position r =
    cond (eqb r.number 0)
    (record { number = 0; place = 0; len = r.len; table = stored lent r.table position r.readings })
    (unspliced lent r.number r.place)

-- an edit of optional readings, and what it promises: as `OptionalSpliced` of `splice` has it, over the table as it is read beside the lent one
abbrev pub optional_lent : {A : Type 0} → Kind (Option A) → List ℕ → CountedTable → ℕ → ℕ → End → List A → List ℕ → ℕ → ℕ → ℕ → Edited (Option A)
optional_lent K s lent position start end new flags values present room =
    edit_in K s position start end (given_optional values present (length new) flags) (slot_list new flags) values room (lent_tab lent s)

pub record OptionalCounted {A : Type 0} (K : Kind (Option A)) (nought : A) (s : List ℕ) (lent : CountedTable) (position start : ℕ) (end : End) (new : List A)
    (flags : List ℕ) (v v' : List A) (p p' out out' : List ℕ) (r : CountedSpliced) : Type 0 where
  pub answer : r ≡ spliced_as K lent position (optional_lent K s lent position start end new flags (length v) (length p) (length out))
  pub values : v' ≡ slots_left nought (map (slot_in nought)) (optional_lent K s lent position start end new flags (length v) (length p) (length out)) v
  pub presence : p' ≡ slots_left 0 (map flag_in) (optional_lent K s lent position start end new flags (length v) (length p) (length out)) p
  pub output : out' ≡ out_left (optional_lent K s lent position start end new flags (length v) (length p) (length out)) out

-- of booleans
abbrev pub boolean_lent : Kind ℕ → List ℕ → CountedTable → ℕ → ℕ → End → List ℕ → ℕ → ℕ → Edited ℕ
boolean_lent K s lent position start end new values room = edit_in K s position start end (given_boolean new) new values room (lent_tab lent s)

pub record BooleanCounted (K : Kind ℕ) (s : List ℕ) (lent : CountedTable) (position start : ℕ) (end : End) (new v v' out out' : List ℕ) (r : CountedSpliced)
    : Type 0 where
  pub answer : r ≡ spliced_as K lent position (boolean_lent K s lent position start end new (length v) (length out))
  pub values : v' ≡ slots_left 0 itself (boolean_lent K s lent position start end new (length v) (length out)) v
  pub output : out' ≡ out_left (boolean_lent K s lent position start end new (length v) (length out)) out

-- of names
abbrev pub text_lent : Kind (Option (List ℕ)) → List ℕ → CountedTable → ℕ → ℕ → End → List ℕ → List ℕ → List ℕ → List ℕ → ℕ → ℕ → ℕ → ℕ
    → Edited (Option (List ℕ))
text_lent K s lent position start end bytes newStarts newLens newFlags starts lens flags room =
    edit_in K s position start end (given_text starts lens flags bytes newStarts newLens newFlags) (name_list bytes newStarts newLens newFlags) starts room
    (lent_tab lent s)

pub record TextCounted (K : Kind (Option (List ℕ))) (s : List ℕ) (lent : CountedTable) (position start : ℕ) (end : End)
    (bytes newStarts newLens newFlags a a' l l' p p' out out' : List ℕ) (r : CountedSpliced) : Type 0 where
  pub answer : r ≡ spliced_as K lent position
      (text_lent K s lent position start end bytes newStarts newLens newFlags (length a) (length l) (length p) (length out))
  pub starts : a' ≡ slots_left 0 starts_in (text_lent K s lent position start end bytes newStarts newLens newFlags (length a) (length l) (length p) (length out)) a
  pub lens : l' ≡ slots_left 0 (map length_in)
      (text_lent K s lent position start end bytes newStarts newLens newFlags (length a) (length l) (length p) (length out)) l
  pub presence : p' ≡ slots_left 0 (map flag_in)
      (text_lent K s lent position start end bytes newStarts newLens newFlags (length a) (length l) (length p) (length out)) p
  pub output : out' ≡ out_left (text_lent K s lent position start end bytes newStarts newLens newFlags (length a) (length l) (length p) (length out)) out
