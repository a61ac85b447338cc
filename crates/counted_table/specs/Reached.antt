-- 02, [6]: "In tables reached from opening by counting, editing .., each of these calls having been lent the table with its own block, a stored number
-- is the length of the defined list of that row's bytes; lent counts are not checked again." The calls by their contracts, and what is so reached.
use Rattle.std.specs.Prelude.{ℕ, ◌<◌, ◌^◌, ◌≡◌, List, ℤ, pos, true, get_or, take}
use Rattle.std.proofs.Math.Option.{some}
use Rattle.leb128.specs.Answer.{done}
use Rattle.column_specification.specs.Specification.{type_of}
use Rattle.delta_decoder.specs.Difference.{holds}
use Rattle.raw_column.specs.Table.{parse}
use Rattle.column_part.specs.Part.{part_at, bytes_of}
use Rattle.splice.specs.Kinds.{integer, delta, boolean, text}
use Rattle.splice.specs.Lent.{Lent}
use Rattle.splice.specs.declared.End.{End}
use Rattle.counted_table.specs.Counts.{counted_opened, stored_at, count_of, counted}
use Rattle.counted_table.specs.Calls.{OptionalCounted, BooleanCounted, TextCounted}
use Rattle.counted_table.specs.declared.CountedTable.{CountedTable}
use Rattle.counted_table.specs.declared.edits.CountedSpliced.{CountedSpliced}

-- WHAT IS STORED IS TRUE: each number is what the row's bytes count as, the length of the list that they read as, soundly
pub record TrueOf (s : List ℕ) (t : CountedTable) : Type 0 where
  pub counts : (i n : ℕ) → i < t.table.rows → stored_at t i ≡ some n → count_of (type_of (part_at s i).spec) (bytes_of s (part_at s i)) ≡ done n

-- AN EDIT of any of the four calls: position, start, end and the new readings
pub data Edit : Type 0 where
  integers : ℕ → ℕ → End → List ℕ → List ℕ → Edit
  deltas : ℕ → ℕ → End → List ℤ → List ℕ → Edit
  booleans : ℕ → ℕ → End → List ℕ → Edit
  names : ℕ → ℕ → End → List ℕ → List ℕ → List ℕ → List ℕ → Edit

-- what every slice of words is, unsigned and signed (the functions of `typed` prove it of any slice that they are lent)
abbrev pub Words : List ℕ → Type 0
Words xs = (i : ℕ) → get_or xs i 0 < 2 ^ 64

abbrev pub SignedWords : List ℤ → Type 0
SignedWords xs = (i : ℕ) → holds (get_or xs i (pos 0)) ≡ true

-- what the slices of new readings are in the code
abbrev pub Typed : Edit → Type 0
Typed (integers position start end new flags) = Words new
Typed (deltas position start end new flags) = SignedWords new
Typed (booleans position start end new) = Unit {0}
Typed (names position start end bytes starts lens flags) = Lent bytes

-- the slots that its call is lent
abbrev pub Slots : Edit → Type 0
Slots (integers position start end new flags) = List ℕ × List ℕ
Slots (deltas position start end new flags) = List ℤ × List ℕ
Slots (booleans position start end new) = List ℕ
Slots (names position start end bytes starts lens flags) = List ℕ × List ℕ × List ℕ

-- the public contract of its call, on the block s with the table t
abbrev pub Promised : (e : Edit) → List ℕ → CountedTable → Slots e → Slots e → List ℕ → List ℕ → CountedSpliced → Type 0
Promised (integers position start end new flags) s t v v' out out' r =
    OptionalCounted integer 0 s t position start end new flags v.0 v'.0 v.1 v'.1 out out' r
Promised (deltas position start end new flags) s t v v' out out' r =
    OptionalCounted delta (pos 0) s t position start end new flags v.0 v'.0 v.1 v'.1 out out' r
Promised (booleans position start end new) s t v v' out out' r = BooleanCounted boolean s t position start end new v v' out out' r
Promised (names position start end bytes starts lens flags) s t v v' out out' r =
    TextCounted text s t position start end bytes starts lens flags v.0 v'.0 v.1 v'.1 v.2 v'.2 out out' r

-- A CALL of an edit on the block s with the table t: what it is lent, leaves there, and answers
pub record Call (e : Edit) (s : List ℕ) (t : CountedTable) : Type 0 where
  pub slots : Slots e
  pub slots' : Slots e
  pub out : List ℕ
  pub out' : List ℕ
  pub answer : CountedSpliced
  pub typed : Typed e
  pub lent : Lent out
  pub promised : Promised e s t slots slots' out out' answer

-- the block that it gave, as many bytes of the output as are answered
abbrev pub block_of : {e : Edit} {s : List ℕ} {t : CountedTable} → Call e s t → List ℕ
block_of c = take c.answer.len c.out'

-- REACHED: from opening by counting and editing, each call lent the table with its own block; refused ones too
pub data Reached : List ℕ → CountedTable → Type 0 where
  opens : (s : List ℕ) → Reached s (counted_opened (parse s)).table
  counts : {s : List ℕ} {t : CountedTable} (position : ℕ) → Reached s t → Reached s (counted t s position).table
  edits : {s : List ℕ} {t : CountedTable} {e : Edit} → Lent s → Reached s t → (c : Call e s t) → c.answer.number ≡ 0 → Reached (block_of c) c.answer.table
  refuses : {s : List ℕ} {t : CountedTable} {e : Edit} → Reached s t → (c : Call e s t) → (c.answer.number ≡ 0 → ⊥) → Reached s c.answer.table
