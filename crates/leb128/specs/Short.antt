-- 02, [4]: signed reading answers a number of one byte "from a fixed table of 256 entries, one for each first byte: the signed number a
-- one-byte encoding stands for, or a mark that more bytes follow".
use Rattle.std.specs.Prelude.{ℕ, zero, suc, ◌+◌, ◌-◌, List, [], ◌∷◌, cond, ltb, eqb, ℤ, pos, negsuc, length, get_or}
use Rattle.leb128.specs.Got.{Got, got}
use Rattle.leb128.specs.Read.{i64_at}

-- the mark, -128: no number of one byte is below -64
abbrev pub mark : ℤ
mark = negsuc 127

-- the entry of a first byte: "bit 6 of the final byte is the sign", and bit 7 means that more follows
abbrev pub entry_of : ℕ → ℤ
entry_of b = cond (ltb b 64) (pos b) (cond (ltb b 128) (negsuc (127 - b)) mark)

-- the entries of n first bytes from b on
abbrev pub entries : ℕ → ℕ → List ℤ
entries zero b = []
entries (suc n) b = entry_of b ∷ entries n (suc b)

-- the fixed table
unfoldable pub short : List ℤ
short = entries 256 0

-- the number at a position whose first byte has the entry x; g is what its bytes say
abbrev pub by_entry : ℤ → ℕ → Got ℤ → Got ℤ
by_entry (pos n) at g = got (pos n) (at + 1)
by_entry (negsuc n) at g = cond (eqb n 127) g (got (negsuc n) (at + 1))

-- the entry of a first byte in any table; what is no byte has the mark
abbrev pub entry_in : List ℤ → ℕ → ℤ
entry_in table b = cond (ltb b 256) (get_or table b (pos 0)) mark

-- the number at a position, by any table that is lent
unfoldable pub i64_by : List ℤ → List ℕ → ℕ → Got ℤ
i64_by table s at = cond (ltb at (length s)) (by_entry (entry_in table (get_or s at 0)) at (i64_at s at)) (i64_at s at)
