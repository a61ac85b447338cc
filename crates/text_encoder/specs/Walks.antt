-- The list of names that is written, walked a piece at a time without slots: readings of a sound column, then the given names, then readings of the
-- column again. What the private functions ask and promise. No public promise cites it.
use Rattle.std.specs.Prelude.{ℕ, ◌+◌, ◌≤◌, ◌≡◌, List, [], ◌++◌, map, Bool, true, false, length, take, drop, replicate}
use Rattle.std.proofs.Math.Option.{Option, none, some}
use Rattle.leb128.specs.Write.{u64_bytes}
use Rattle.encoding.specs.Column.{Reading, absent, present, value}
use Rattle.encoding.specs.Walk.{Trace, sound}
use Rattle.cursor.specs.Cursor.{Sort, same, literal, cursor, coming}
use Rattle.text.specs.Text.{bytes_at, same_bytes, text_e}
use Rattle.text.specs.Given.{name_list, bad_pair}
use Rattle.text_encoder.specs.declared.walk.Held.{Held}
use Rattle.text_encoder.specs.declared.walk.Held.TheVariants as held
use Rattle.text_encoder.specs.declared.walk.TextSort.{TextSort}
use Rattle.text_encoder.specs.declared.walk.TextSort.TheVariants as sorts
use Rattle.text_encoder.specs.declared.walk.TextCursor.{TextCursor}
use Rattle.text_encoder.specs.declared.walk.OldPiece.{OldPiece}
use Rattle.text_encoder.specs.declared.walk.Splicing.{Splicing}

-- the reading that is held, and whether its bytes are there
abbrev pub held_in : List ℕ → List ℕ → Held → Option (List ℕ)
held_in column bytes held.Absent = none
held_in column bytes (held.Old start len) = some (bytes_at column start len)
held_in column bytes (held.New start len) = some (bytes_at bytes start len)

abbrev pub Within : List ℕ → List ℕ → Held → Type 0
Within column bytes held.Absent = Unit {0}
Within column bytes (held.Old start len) = start + len ≤ length column
Within column bytes (held.New start len) = start + len ≤ length bytes

-- the name of a reading; none of an absent one
abbrev pub name_in : Option (List ℕ) → List ℕ
name_in none = []
name_in (some v) = v

-- how many bytes are written of it
abbrev pub size_in : Held → ℕ
size_in held.Absent = 0
size_in (held.Old start len) = length (u64_bytes len) + len
size_in (held.New start len) = length (u64_bytes len) + len

-- is it absent
abbrev pub AbsentIf : Held → Bool → Type 0
AbsentIf h true = h ≡ held.Absent
AbsentIf h false = h ≡ held.Absent → ⊥

-- does a reading have this name, and do two have the same
abbrev pub same_as : List ℕ → Option (List ℕ) → Bool
same_as v none = false
same_as v (some w) = same_bytes v w

abbrev pub same_of : Option (List ℕ) → Option (List ℕ) → Bool
same_of none y = false
same_of (some v) y = same_as v y

-- ---- the old list

abbrev pub sort_in : List ℕ → TextSort → Sort (List ℕ)
sort_in column sorts.Absent = same absent
sort_in column (sorts.Repeat start len place) = same (present (bytes_at column start len) place)
sort_in column sorts.Literal = literal

abbrev pub coming_at : List ℕ → TextCursor → Trace (Reading (List ℕ))
coming_at column c = coming text_e column (cursor c.at c.had c.left (sort_in column c.sort))

-- the readings from a cursor on
abbrev pub old_from : List ℕ → TextCursor → List (Option (List ℕ))
old_from column c = map value (coming_at column c).readings

-- the value that repeats has its bytes in the column
abbrev pub Carries : List ℕ → TextSort → Type 0
Carries column sorts.Absent = Unit {0}
Carries column (sorts.Repeat start len place) = start + len ≤ length column
Carries column sorts.Literal = Unit {0}

-- the reading of a run in which all are the same
abbrev pub HeldBy : TextSort → Held → Type 0
HeldBy sorts.Absent h = h ≡ held.Absent
HeldBy (sorts.Repeat start len place) h = h ≡ held.Old start len
HeldBy sorts.Literal h = ⊥

pub record Sound (column : List ℕ) (c : TextCursor) : Type 0 where
  pub inside : c.at ≤ length column
  pub carries : Carries column c.sort
  pub ending : (coming_at column c).ending ≡ sound

-- the same readings are to come at d
pub record Onward (column : List ℕ) (c d : TextCursor) : Type 0 where
  pub sound : Sound column d
  pub coming : coming_at column d ≡ coming_at column c

-- a piece of at most `most` readings was drawn at c: one reading some times, and what is to come behind it; none where nothing is to come
pub record DrawnFrom (column : List ℕ) (c : TextCursor) (most : ℕ) (r : OldPiece) : Type 0 where
  pub sound : Sound column r.cursor
  pub within : (bytes : List ℕ) → Within column bytes r.held
  pub few : r.times ≤ most
  pub readings : (bytes : List ℕ) → old_from column c ≡ replicate r.times (held_in column bytes r.held) ++ old_from column r.cursor
  pub nothing : r.times ≡ 0 → old_from column c ≡ []

-- ---- the list that is written

-- what comes behind the piece that is held, where `new` are the given names; and all from that piece on
abbrev pub rest_of : List ℕ → List (Option (List ℕ)) → Splicing → List (Option (List ℕ))
rest_of column new s =
    take s.before (old_from column s.cursor) ++ (drop s.next new ++ drop (s.before + s.gap) (old_from column s.cursor))

abbrev pub list_of : List ℕ → List ℕ → List (Option (List ℕ)) → Splicing → List (Option (List ℕ))
list_of column bytes new s = replicate s.times (held_in column bytes s.held) ++ rest_of column new s

-- what comes behind the piece is there
pub record Rest (column : List ℕ) (s : Splicing) : Type 0 where
  pub sound : Sound column s.cursor
  pub enough : s.before + s.gap ≤ length (old_from column s.cursor)

-- a state of the walk; it is at its end where no reading is held
pub record Going (column bytes : List ℕ) (new : List (Option (List ℕ))) (s : Splicing) : Type 0 where
  pub rest : Rest column s
  pub within : Within column bytes s.held
  pub ended : s.times ≡ 0 → list_of column bytes new s ≡ []

-- the same where the given names are pairs in lent bytes
abbrev pub At : List ℕ → List ℕ → List ℕ → List ℕ → List ℕ → Splicing → Type 0
At column bytes starts lens flags s = Going column bytes (name_list bytes starts lens flags) s

abbrev pub behind_of : List ℕ → List ℕ → List ℕ → List ℕ → List ℕ → Splicing → List (Option (List ℕ))
behind_of column bytes starts lens flags s = rest_of column (name_list bytes starts lens flags) s

abbrev pub names_from : List ℕ → List ℕ → List ℕ → List ℕ → List ℕ → Splicing → List (Option (List ℕ))
names_from column bytes starts lens flags s = list_of column bytes (name_list bytes starts lens flags) s

-- the reading x, as one that is held in the given bytes
pub record GivenAs (bytes : List ℕ) (x : Option (List ℕ)) (h : Held) : Type 0 where
  pub within : (column : List ℕ) → Within column bytes h
  pub is : (column : List ℕ) → held_in column bytes h ≡ x

-- pairs in lent bytes that were judged
pub record Pairs (bytes starts lens flags : List ℕ) : Type 0 where
  pub even : length lens ≡ length starts
  pub flagged : length flags ≡ length starts
  pub good : bad_pair (length bytes) 0 starts lens flags ≡ none
