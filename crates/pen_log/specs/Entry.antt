-- 02, [11]: "An entry is a byte of kind, a u32 position and, for kinds 1 and 4, an i64 depth in two's complement, lowest byte first. Kind 1 inserts, 2
-- inserts an absent reading, 3 removes, 4 changes. An insert may stand at the list's end, the others must name an existing reading."
use Rattle.std.specs.Prelude.{ℕ, ◌+◌, ◌-◌, ◌*◌, ◌^◌, List, [], ◌∷◌, Bool, cond, ltb, leb, eqb, ℤ, pos, negsuc, length, get_or}
use Rattle.std.proofs.Math.Option.{Option, none, some}
use Rattle.leb128.specs.Got.{Got, got, bad}
use Rattle.slots.specs.Splice.{spliced}

pub data Entry : Type 0 where
  insert : ℕ → ℤ → Entry
  insert_absent : ℕ → Entry
  remove : ℕ → Entry
  change : ℕ → ℤ → Entry

-- ---- the four kinds over a list

abbrev pub applied : Entry → List (Option ℤ) → List (Option ℤ)
applied (insert i x) xs = spliced xs i i (some x ∷ [])
applied (insert_absent i) xs = spliced xs i i (none ∷ [])
applied (remove i) xs = spliced xs i (i + 1) []
applied (change i x) xs = spliced xs i (i + 1) (some x ∷ [])

-- may it stand in a list of so many readings? "An absent reading is an existing one."
abbrev pub stands : Entry → ℕ → Bool
stands (insert i x) n = leb i n
stands (insert_absent i) n = leb i n
stands (remove i) n = ltb i n
stands (change i x) n = ltb i n

-- ---- its bytes

unfoldable pub word_at : List ℕ → ℕ → ℕ
word_at s at = get_or s at 0 + 256 * get_or s (at + 1) 0 + 65536 * get_or s (at + 2) 0 + 16777216 * get_or s (at + 3) 0

-- "two's complement": 64 bits as a signed number
unfoldable pub signed : ℕ → ℤ
signed n = cond (ltb n (2 ^ 63)) (pos n) (negsuc (2 ^ 64 - 1 - n))

unfoldable pub depth_at : List ℕ → ℕ → ℤ
depth_at s at = signed (word_at s at + 4294967296 * word_at s (at + 4))

-- the entry at a position and the position behind it. Refusal 23: "unknown kind, cut entry .., place the entry's first byte"
abbrev pub whole : List ℕ → ℕ → ℕ → Entry → Got Entry
whole s at size e = cond (leb (at + size) (length s)) (got e (at + size)) (bad 23 at)

unfoldable pub entry_at : List ℕ → ℕ → Got Entry
entry_at s at =
    let kind = get_or s at 0 in
    let i = word_at s (at + 1) in
    let x = depth_at s (at + 5) in
    cond (eqb kind 1) (whole s at 13 (insert i x))
    (cond (eqb kind 2) (whole s at 5 (insert_absent i))
    (cond (eqb kind 3) (whole s at 5 (remove i))
    (cond (eqb kind 4) (whole s at 13 (change i x))
    (bad 23 at))))
