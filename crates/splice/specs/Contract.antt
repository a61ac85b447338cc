-- What an edit promises: its answer, its slots and its output, by the meaning of the edit.
use Rattle.std.specs.Prelude.{ℕ, ◌-◌, ◌≡◌, List, ◌++◌, map, length, replicate}
use Rattle.std.proofs.Math.Option.{Option, none, some}
use Rattle.encoding.specs.Given.{slot_list}
use Rattle.encoding.specs.Column.{trace}
use Rattle.encoding.specs.Writer.{column_bytes}
use Rattle.text.specs.Text.{text_e}
use Rattle.text.specs.Name.{start_of}
use Rattle.text.specs.Given.{name_list}
use Rattle.splice.specs.Kind.{Kind}
use Rattle.splice.specs.Edit.{Edited, given_optional, given_boolean, given_text, edited, answered, slots_left, out_left, Spliced}
use Rattle.splice.specs.declared.End.{End}

-- a reading's value in its slot, where `nought` is the element's 0, and its presence byte
abbrev pub slot_in : {A : Type 0} → A → Option A → A
slot_in nought none = nought
slot_in nought (some a) = a

abbrev pub flag_in : {A : Type 0} → Option A → ℕ
flag_in none = 0
flag_in (some a) = 1

-- an edit of optional readings: new ones and slots are each a slice of values and one of presence bytes
abbrev pub optional_edit : {A : Type 0} → Kind (Option A) → List ℕ → ℕ → ℕ → End → List A → List ℕ → ℕ → ℕ → ℕ → Edited (Option A)
optional_edit K s position start end new flags values present room =
    edited K s position start end (given_optional values present (length new) flags) (slot_list new flags) values room

-- the slices v, p and out before it, v', p' and out' after it
pub record OptionalSpliced {A : Type 0} (K : Kind (Option A)) (nought : A) (s : List ℕ) (position start : ℕ) (end : End) (new : List A) (flags : List ℕ)
    (v v' : List A) (p p' out out' : List ℕ) (r : Spliced) : Type 0 where
  pub answer : r ≡ answered K (optional_edit K s position start end new flags (length v) (length p) (length out))
  pub values : v' ≡ slots_left nought (map (slot_in nought)) (optional_edit K s position start end new flags (length v) (length p) (length out)) v
  pub presence : p' ≡ slots_left 0 (map flag_in) (optional_edit K s position start end new flags (length v) (length p) (length out)) p
  pub output : out' ≡ out_left (optional_edit K s position start end new flags (length v) (length p) (length out)) out

-- an edit of booleans
abbrev pub boolean_edit : Kind ℕ → List ℕ → ℕ → ℕ → End → List ℕ → ℕ → ℕ → Edited ℕ
boolean_edit K s position start end new values room = edited K s position start end (given_boolean new) new values room

abbrev pub itself : List ℕ → List ℕ
itself xs = xs

pub record BooleanSpliced (K : Kind ℕ) (s : List ℕ) (position start : ℕ) (end : End) (new v v' out out' : List ℕ) (r : Spliced) : Type 0 where
  pub answer : r ≡ answered K (boolean_edit K s position start end new (length v) (length out))
  pub values : v' ≡ slots_left 0 itself (boolean_edit K s position start end new (length v) (length out)) v
  pub output : out' ≡ out_left (boolean_edit K s position start end new (length v) (length out)) out

-- an edit of names. 02, [1]: "After an accepted edit the slots hold starts in the new column", absent zeros where nothing is written
abbrev pub starts_in : List (Option (List ℕ)) → List ℕ
starts_in xs =
    let starts = map start_of (trace text_e (column_bytes text_e xs)).readings in starts ++ replicate (length xs - length starts) 0

abbrev pub length_in : Option (List ℕ) → ℕ
length_in none = 0
length_in (some v) = length v

abbrev pub text_edit : Kind (Option (List ℕ)) → List ℕ → ℕ → ℕ → End → List ℕ → List ℕ → List ℕ → List ℕ → ℕ → ℕ → ℕ → ℕ → Edited (Option (List ℕ))
text_edit K s position start end bytes newStarts newLens newFlags starts lens flags room =
    edited K s position start end (given_text starts lens flags bytes newStarts newLens newFlags) (name_list bytes newStarts newLens newFlags) starts room

-- the slices a, l, p and out before it, a', l', p' and out' after it
pub record TextSpliced (K : Kind (Option (List ℕ))) (s : List ℕ) (position start : ℕ) (end : End) (bytes newStarts newLens newFlags : List ℕ)
    (a a' l l' p p' out out' : List ℕ) (r : Spliced) : Type 0 where
  pub answer : r ≡ answered K (text_edit K s position start end bytes newStarts newLens newFlags (length a) (length l) (length p) (length out))
  pub starts : a' ≡ slots_left 0 starts_in (text_edit K s position start end bytes newStarts newLens newFlags (length a) (length l) (length p) (length out)) a
  pub lens : l' ≡ slots_left 0 (map length_in) (text_edit K s position start end bytes newStarts newLens newFlags (length a) (length l) (length p) (length out)) l
  pub presence : p' ≡ slots_left 0 (map flag_in) (text_edit K s position start end bytes newStarts newLens newFlags (length a) (length l) (length p) (length out)) p
  pub output : out' ≡ out_left (text_edit K s position start end bytes newStarts newLens newFlags (length a) (length l) (length p) (length out)) out
