-- 02, [3]: "Show that these hold of the bytes by our definitions .. and that number and place are the ordinary call's." What a reason of a table's fault says of the
-- bytes, by its facts, in the words of the table's own definitions. That every reason does is in proofs/Truths.antt.
use Rattle.std.specs.Prelude.{ℕ, suc, ◌+◌, ◌≤◌, ◌<◌, ◌≡◌, List, true, false, length, get_or, drop}
use Rattle.leb128.specs.Got.{got, bad}
use Rattle.leb128.specs.Read.{u32_at, u64_at}
use Rattle.column_specification.specs.Key.{key}
use Rattle.column_specification.specs.Specification.{compressed_of}
use Rattle.raw_column.specs.Table.{tab, rows_at, sum}
use Rattle.reason.specs.Reason.{number_bytes}
use Rattle.reason.specs.True.{Broken}
use Rattle.table_reason.specs.TableReason.{Facts, bytes, columns, falls, compressed, lengths, Row, nowhere, row, TableReason}

-- ---- a number that does not read

-- in the row that begins at p: its specification, or its length behind that
pub data RowBad (s : List ℕ) (p number place : ℕ) : Type 0 where
  bad_spec : u32_at s p ≡ bad number place → RowBad s p number place
  bad_len : {spec q : ℕ} → u32_at s p ≡ got spec q → u64_at s q ≡ bad number place → RowBad s p number place

-- of n rows from p on the row i: those before it read, up to where it begins
pub record RowUnread (s : List ℕ) (n p i number place : ℕ) : Type 0 where
  pub due : i < n
  pub specs : List ℕ
  pub lens : List ℕ
  pub begins : ℕ
  pub many : length specs ≡ i
  pub before : rows_at i s p ≡ tab specs lens begins
  pub refused : RowBad s begins number place

-- the column count reads and is at most 64, and a row does not read
pub record RowsUnread (s : List ℕ) (i number place : ℕ) : Type 0 where
  pub count : ℕ
  pub first : ℕ
  pub counted : u64_at s 0 ≡ got count first
  pub few : count ≤ 64
  pub unread : RowUnread s count first i number place

-- where no row is named, the column count itself does not read
abbrev pub UnreadAt : List ℕ → ℕ → ℕ → Row → Type 0
UnreadAt s number place nowhere = u64_at s 0 ≡ bad number place
UnreadAt s number place (row i) = RowsUnread s i number place

-- it is 1, 2, 3 or 21, and n of its bytes are there, of which the same is true as of a number in a column; one that is too large for a u32 is whole too
pub record Unread (s : List ℕ) (r : TableReason) (n : ℕ) : Type 0 where
  pub unread : UnreadAt s r.number r.place r.row
  pub is : n ≡ number_bytes 0 (drop r.place s)
  pub broken : Broken s r.number r.place n

-- ---- 11

pub record TooMany (s : List ℕ) (r : TableReason) (n : ℕ) : Type 0 where
  pub number : r.number ≡ 11
  pub place : r.place ≡ 0
  pub names : r.row ≡ nowhere
  pub behind : ℕ
  pub counted : u64_at s 0 ≡ got n behind
  pub passes : 64 < n

-- ---- 12 to 15: all rows read

pub record AllRead (s specs lens : List ℕ) (next : ℕ) : Type 0 where
  pub first : ℕ
  pub counted : u64_at s 0 ≡ got (length specs) first
  pub few : length specs ≤ 64
  pub rows : rows_at (length specs) s first ≡ tab specs lens next
  pub many : length lens ≡ length specs

-- in the first m rows no key is below the one before it; no specification has bit 3 set
abbrev pub NoneFalls : ℕ → List ℕ → Type 0
NoneFalls m specs = (i : ℕ) → suc i < m → key (get_or specs i 0) ≤ key (get_or specs (suc i) 0)

abbrev pub NoneCompressed : ℕ → List ℕ → Type 0
NoneCompressed m specs = (i : ℕ) → i < m → compressed_of (get_or specs i 0) ≡ false

-- 12: the row named is the later of the two, and the first that falls
pub record Falls (s : List ℕ) (r : TableReason) (a b : ℕ) : Type 0 where
  pub number : r.number ≡ 12
  pub place : r.place ≡ 0
  pub specs : List ℕ
  pub lens : List ℕ
  pub next : ℕ
  pub read : AllRead s specs lens next
  pub earlier : ℕ
  pub names : r.row ≡ row (suc earlier)
  pub within : suc earlier < length specs
  pub before_is : a ≡ get_or specs earlier 0
  pub falling_is : b ≡ get_or specs (suc earlier) 0
  pub below : key b < key a
  pub first : NoneFalls (suc earlier) specs

-- 13: the row named is the first, and keys do not fall
pub record Compressed (s : List ℕ) (r : TableReason) (a : ℕ) : Type 0 where
  pub number : r.number ≡ 13
  pub place : r.place ≡ 0
  pub specs : List ℕ
  pub lens : List ℕ
  pub next : ℕ
  pub read : AllRead s specs lens next
  pub order : NoneFalls (length specs) specs
  pub index : ℕ
  pub names : r.row ≡ row index
  pub within : index < length specs
  pub is : a ≡ get_or specs index 0
  pub set : compressed_of a ≡ true
  pub first : NoneCompressed index specs

-- 14, the lengths add up to more than there is, or 15, to less
pub data Uneven (number total room : ℕ) : Type 0 where
  more : number ≡ 14 → room < total → Uneven number total room
  less : number ≡ 15 → total < room → Uneven number total room

pub record Lengths (s : List ℕ) (r : TableReason) (total room : ℕ) : Type 0 where
  pub place : r.place ≡ 0
  pub names : r.row ≡ nowhere
  pub specs : List ℕ
  pub lens : List ℕ
  pub next : ℕ
  pub read : AllRead s specs lens next
  pub order : NoneFalls (length specs) specs
  pub plain : NoneCompressed (length specs) specs
  pub total_is : total ≡ sum lens
  pub room_is : next + room ≡ length s
  pub uneven : Uneven r.number total room

-- ---- what a reason says

abbrev pub Says : List ℕ → TableReason → Facts → Type 0
Says s r (bytes n) = Unread s r n
Says s r (columns n) = TooMany s r n
Says s r (falls a b) = Falls s r a b
Says s r (compressed a) = Compressed s r a
Says s r (lengths total room) = Lengths s r total room
