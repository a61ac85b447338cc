-- 02, [3]: "Show that these hold of the bytes by our definitions, that all earlier runs read without fault, and that number and place are the ordinary call's." What is true of
-- every reason, said of the bytes: by the run at a state, the number at a position, the limit and the sums. How a reason is found is not named here.
use Rattle.std.specs.Prelude.{ℕ, suc, ◌+◌, ◌≤◌, ◌<◌, ◌⊎◌, ◌≡◌, List, [], ◌++◌, true, false, ℤ, pos, negsuc, ◌+ℤ◌, length, get_or}
use Rattle.std.proofs.Math.Option.{Option, some}
use Rattle.std.proofs.Math.Option as option
use Rattle.column_specification.specs.Served.{integer_type, delta_type, boolean_type, text_type}
use Rattle.leb128.specs.Got.{Got, got, bad}
use Rattle.leb128.specs.Read.{u64_at, i64_at}
use Rattle.encoding.specs.Column.{absent, present, Spot, spot, run_at, trace}
use Rattle.encoding.specs.Element.{Element}
use Rattle.encoding.specs.Limit.{limit}
use Rattle.encoding.specs.Walk.{Run, on, off, Trace}
use Rattle.encoding.specs.Walk as walk
use Rattle.rle_decoder.specs.Word.{u64_e}
use Rattle.delta_decoder.specs.Difference.{i64_e, holds}
use Rattle.delta_decoder.specs.Sums.{delta_trace, last_sum}
use Rattle.boolean_decoder.specs.Turns.{Turn, turn, turn_at, bool_trace}
use Rattle.utf8.specs.Utf8.{is_utf8}
use Rattle.text.specs.Text.{bytes_at, text_e}
use Rattle.reason.specs.Columns.{Told, because, faultless, refused}
use Rattle.reason.specs.Reason.{Count, bytes, name, passes, sum, Reason, signed_count, unsigned_count}

-- THE REASONS OF A COLUMN that reads as t: each that is given is true, as `Is` says; a fault has one, and a sound column has none
pub record Explained {Q : Type 0} (t : Trace Q) (given : Option Reason) (Is : Reason → Type 0) : Type 0 where
  pub each : (r : Reason) → given ≡ some r → Is r
  pub faulty : (number place : ℕ) → t.ending ≡ walk.fault number place → (r : Reason) × (given ≡ some r) × Is r
  pub sound : t.ending ≡ walk.sound → given ≡ option.none

-- ---- which run

-- "all earlier runs read without fault": so many runs, one behind another, from a state to another, and their readings
pub data Passed {R S : Type 0} (run : S → Run R S) : ℕ → S → List R → S → Type 0 where
  none : {st : S} → Passed run 0 st [] st
  one : {k : ℕ} {st z last : S} {xs : List R} → (run st).next ≡ on z → Passed run k z xs last → Passed run (suc k) st ((run st).readings ++ xs) last

-- "number and place are the ordinary call's", which reads the column as t; "which run", "the byte where that run begins, the count read there": the run at a state, which so
-- many runs lead to from the column's first byte; "the index of the reading at fault": so many readings come before the fault. `Why` says what is true of the run at that state
pub record True {Q R S : Type 0} (t : Trace Q) (run : S → Run R S) (start : S) (at had : S → ℕ) (countAt : ℕ → Count) (Why : S → Reason → Type 0) (r : Reason)
    : Type 0 where
  pub fault : t.ending ≡ walk.fault r.number r.place
  pub index : r.index ≡ length t.readings
  pub state : S
  pub earlier : List R
  pub passed : Passed run r.run start earlier state
  pub counted : had state ≡ length earlier
  pub begins : r.begins ≡ at state
  pub count : r.count ≡ countAt r.begins
  pub why : Why state r

-- the run at a state has the fault, behind the readings of its own that come before it; and what is at fault
pub record Falls {R S : Type 0} (run : S → Run R S) (had : S → ℕ) (Fault : ℕ → S → Reason → Type 0) (st : S) (r : Reason) : Type 0 where
  pub falls : (run st).next ≡ off r.number r.place
  pub index : r.index ≡ had st + length (run st).readings
  pub fault : Fault (length (run st).readings) st r

-- ---- a number at fault

-- "for 1 and 21 how many bytes of the number are there"; for 2 and 3 "the number's bytes speak; say how many there are"
pub data Broken (s : List ℕ) (number place n : ℕ) : Type 0 where
  -- no byte where a number is due
  none : number ≡ 21 → place ≡ length s → n ≡ 0 → Broken s number place n
  -- the bytes end behind n of the number's, fewer than ten, of which each has bit 7 set
  cut : number ≡ 1 → 0 < n → n < 10 → place + n ≡ length s → ((i : ℕ) → i < n → 128 ≤ get_or s (place + i) 0) → Broken s number place n
  -- all its n bytes are there, of which each but the last has bit 7 set, and the last has not, or is the tenth
  whole : (number ≡ 2) ⊎ (number ≡ 3) → {m : ℕ} → n ≡ suc m → n ≤ 10 → place + n ≤ length s → ((i : ℕ) → i < m → 128 ≤ get_or s (place + i) 0)
      → (get_or s (place + m) 0 < 128) ⊎ (n ≡ 10) → Broken s number place n

-- the number at the place is refused so by its reader, and the facts say how many bytes of it are there
pub record Unread {A : Type 0} (read : List ℕ → ℕ → Got A) (s : List ℕ) (r : Reason) : Type 0 where
  pub refused : read s r.place ≡ bad r.number r.place
  pub there : ℕ
  pub facts : r.facts ≡ bytes there
  pub broken : Broken s r.number r.place there

-- ---- a run of a run-length column at fault

-- by the number at a place the run at a position asks for c readings: by its count, or by the second number of an absent run
pub data Asks (s : List ℕ) (at c place : ℕ) : Type 0 where
  repeats : {q : ℕ} → place ≡ at → i64_at s at ≡ got (pos c) q → 0 < c → Asks s at c place
  literals : {m q : ℕ} → place ≡ at → i64_at s at ≡ got (negsuc m) q → c ≡ suc m → Asks s at c place
  absents : {q : ℕ} → i64_at s at ≡ got (pos 0) place → u64_at s place ≡ got c q → Asks s at c place

-- k values, one behind another, from a position to another
pub data Values {A : Type 0} (E : Element A) (s : List ℕ) : ℕ → ℕ → ℕ → Type 0 where
  none : {q : ℕ} → Values E s 0 q q
  one : {k q z last : ℕ} {a : A} → E.read s q ≡ got a z → Values E s k z last → Values E s (suc k) q last

-- a value of the run at a position stands at a place, behind k others
pub data ValueAt {A : Type 0} (E : Element A) (s : List ℕ) (at k place : ℕ) : Type 0 where
  repeats : {c : ℕ} → i64_at s at ≡ got (pos c) place → 0 < c → k ≡ 0 → ValueAt E s at k place
  literals : {m q : ℕ} → i64_at s at ≡ got (negsuc m) q → Values E s k q place → k ≤ m → ValueAt E s at k place

-- what is at fault, behind k readings of the run: its count, a signed number; of an absent run the second number; for 5, "the readings before the run and the count that passes
-- the limit"; or a value, of which `Value` says what is true
pub data RunFault {A : Type 0} (E : Element A) (s : List ℕ) (Value : Reason → Type 0) (k : ℕ) (st : Spot) (r : Reason) : Type 0 where
  first : k ≡ 0 → r.place ≡ st.at → Unread i64_at s r → RunFault E s Value k st r
  second : k ≡ 0 → i64_at s st.at ≡ got (pos 0) r.place → Unread u64_at s r → RunFault E s Value k st r
  many : {c : ℕ} → k ≡ 0 → r.number ≡ 5 → r.facts ≡ passes st.had c → Asks s st.at c r.place → st.had ≤ limit → limit < st.had + c → RunFault E s Value k st r
  value : ValueAt E s st.at k r.place → Value r → RunFault E s Value k st r

-- ---- the kinds

abbrev pub ColumnTrue : {A Q : Type 0} → Element A → List ℕ → Trace Q → (Spot → Reason → Type 0) → Reason → Type 0
ColumnTrue E s t Why = True t (run_at E s) (spot 0 0) (λ st. st.at) (λ st. st.had) (λ p. signed_count (i64_at s p)) Why

abbrev pub ColumnFalls : {A : Type 0} → Element A → List ℕ → (Reason → Type 0) → Spot → Reason → Type 0
ColumnFalls E s Value = Falls (run_at E s) (λ st. st.had) (RunFault E s Value)

-- an integer column
abbrev pub IntegerTrue : List ℕ → Reason → Type 0
IntegerTrue s = ColumnTrue u64_e s (trace u64_e s) (ColumnFalls u64_e s (Unread u64_at s))

-- a name at fault: its length number; the bytes that are there for it; or those bytes
pub data NameFault (s : List ℕ) (r : Reason) : Type 0 where
  size : Unread u64_at s r → NameFault s r
  cut : {n q m : ℕ} → r.number ≡ 1 → r.facts ≡ name n m → u64_at s r.place ≡ got n q → q + m ≡ length s → m < n → NameFault s r
  characters : {n q m : ℕ} → r.number ≡ 20 → r.facts ≡ name n m → u64_at s r.place ≡ got n q → q + m ≡ length s → n ≤ m → is_utf8 (bytes_at s q n) ≡ false
      → NameFault s r

abbrev pub TextTrue : List ℕ → Reason → Type 0
TextTrue s = ColumnTrue text_e s (trace text_e s) (ColumnFalls text_e s (NameFault s))

-- "for 6, the sum before and the delta": the run at a state holds the delta at the place, at the index named; the last sum before it and the delta are held by an i64 each (where
-- the column's bytes are bytes), and together they are not
pub record Leaves (s : List ℕ) (st : Spot) (r : Reason) : Type 0 where
  pub number : r.number ≡ 6
  pub z : ℤ
  pub d : ℤ
  pub facts : r.facts ≡ sum z d
  pub last : z ≡ last_sum (pos 0) (delta_trace s).readings
  pub next : ℕ
  pub there : i64_at s r.place ≡ got d next
  pub nth : ℕ
  pub index : r.index ≡ st.had + nth
  pub reading : get_or (run_at i64_e s st).readings nth absent ≡ present d r.place
  pub held : holds z ≡ true
  pub small : ((i : ℕ) → get_or s i 0 < 256) → holds d ≡ true
  pub outside : holds (z +ℤ d) ≡ false

-- no earlier sum leaves i64
abbrev pub SumsHeld : List ℕ → Type 0
SumsHeld s = (i : ℕ) (z : ℤ) (place : ℕ) → get_or (delta_trace s).readings i absent ≡ present z place → holds z ≡ true

-- the runs of a delta column are those of its differences
abbrev pub DeltaTrue : List ℕ → Reason → Type 0
DeltaTrue s = ColumnTrue i64_e s (delta_trace s) (λ st r. SumsHeld s × (ColumnFalls i64_e s (Unread i64_at s) st r ⊎ Leaves s st r))

-- a run of a boolean column is one count
pub data TurnFault (s : List ℕ) (k : ℕ) (st : Turn) (r : Reason) : Type 0 where
  first : k ≡ 0 → r.place ≡ st.at → Unread u64_at s r → TurnFault s k st r
  many : {c q : ℕ} → k ≡ 0 → r.number ≡ 5 → r.facts ≡ passes st.had c → r.place ≡ st.at → u64_at s st.at ≡ got c q → st.had ≤ limit → limit < st.had + c
      → TurnFault s k st r

abbrev pub BooleanTrue : List ℕ → Reason → Type 0
BooleanTrue s =
    True (bool_trace s) (turn_at s) (turn 0 0 0) (λ st. st.at) (λ st. st.had) (λ p. unsigned_count (u64_at s p))
    (Falls (turn_at s) (λ st. st.had) (TurnFault s))

-- ---- the call over a column's bytes and its type

-- what is said of the kind that a type is of
pub data OfKind (t : ℕ) (Integer Delta Boolean Text : Type 0) : Type 0 where
  integer : integer_type t ≡ true → Integer → OfKind t Integer Delta Boolean Text
  delta : delta_type t ≡ true → Delta → OfKind t Integer Delta Boolean Text
  boolean : boolean_type t ≡ true → Boolean → OfKind t Integer Delta Boolean Text
  text : text_type t ≡ true → Text → OfKind t Integer Delta Boolean Text

-- a reason that it gives is true; where it gives none, the column is sound; "types that no call serves get 17 and no reason"
abbrev pub CallTrue : ℕ → List ℕ → Told → Type 0
CallTrue t s (because r) = OfKind t (IntegerTrue s r) (DeltaTrue s r) (BooleanTrue s r) (TextTrue s r)
CallTrue t s faultless =
    OfKind t ((trace u64_e s).ending ≡ walk.sound) ((delta_trace s).ending ≡ walk.sound) ((bool_trace s).ending ≡ walk.sound) ((trace text_e s).ending ≡ walk.sound)
CallTrue t s (refused number place) =
    (number ≡ 17) × (place ≡ 0) × (integer_type t ≡ false) × (delta_type t ≡ false) × (boolean_type t ≡ false) × (text_type t ≡ false)
