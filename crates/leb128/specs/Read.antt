-- 01, "Numbers": the number that digits are, or its refusal. "Too large is judged before overlong."
use Rattle.std.specs.Prelude.{ℕ, suc, ◌+◌, ◌*◌, ◌-◌, ◌%◌, min, List, Bool, not, cond, ◌&&◌, ltb, leb, eqb, ℤ, pos, negsuc, length, drop}
use Rattle.leb128.specs.Got.{Got, got, bad}
use Rattle.leb128.specs.Digits.{Digits, whole, broken, digits}

-- "Unsigned: a final tenth byte above 1 is too large; a final 0 after the first byte is overlong."
abbrev pub u_large : ℕ → ℕ → Bool
u_large last count = eqb count 10 && ltb 1 last

abbrev pub u_long : ℕ → ℕ → Bool
u_long last count = ltb 1 count && eqb last 0

abbrev pub unsigned : ℕ → ℕ → Digits → Got ℕ
unsigned at place (whole low scale prev last count) =
    cond (u_large last count) (bad 2 place)
    (cond (u_long last count) (bad 3 place)
    (got (low + scale * last) (at + count)))
unsigned at place (broken r) = bad r place

-- the final byte that only repeats bit 6 of the byte b: 00 where it is clear, 7f where it is set
abbrev pub fill : ℕ → ℕ
fill b = cond (ltb (b % 128) 64) 0 127

-- "a final tenth byte other than 00 or 7f is too large; from the second byte on, a final 00 after a byte with bit 6 clear, or a final
-- 7f after a byte with bit 6 set, is overlong"
abbrev pub s_large : ℕ → ℕ → Bool
s_large last count = eqb count 10 && not (eqb last (fill last))

abbrev pub s_long : ℕ → ℕ → ℕ → Bool
s_long prev last count = ltb 1 count && eqb last (fill prev)

-- "bit 6 of the final byte is the sign": where it is set, the value less scale * 128 (negsuc n is -(n + 1))
abbrev pub signed_of : ℕ → ℕ → ℕ → ℤ
signed_of low scale last = cond (ltb last 64) (pos (low + scale * last)) (negsuc (scale * 128 - suc (low + scale * last)))

abbrev pub signed : ℕ → ℕ → Digits → Got ℤ
signed at place (whole low scale prev last count) =
    cond (s_large last count) (bad 2 place)
    (cond (s_long prev last count) (bad 3 place)
    (got (signed_of low scale last) (at + count)))
signed at place (broken r) = bad r place

-- the number at a position. "A number due where the bytes have already ended has the length as its place."
unfoldable pub u64_at : List ℕ → ℕ → Got ℕ
u64_at s at = unsigned at (min at (length s)) (digits 0 0 (drop at s))

-- the position behind what was read; 0, which nothing has behind it, where it was refused
abbrev pub end_of : {A : Type 0} → Got A → ℕ
end_of (got a next) = next
end_of (bad r place) = 0

unfoldable pub i64_at : List ℕ → ℕ → Got ℤ
i64_at s at = signed at (min at (length s)) (digits 0 0 (drop at s))

-- "A u32 is read as a u64 with these rules first, and must then be at most 4,294,967,295, else 2."
abbrev pub narrow : ℕ → Got ℕ → Got ℕ
narrow at (got v next) = cond (leb v 4294967295) (got v next) (bad 2 at)
narrow at (bad r place) = bad r place

unfoldable pub u32_at : List ℕ → ℕ → Got ℕ
u32_at s at = narrow at (u64_at s at)

-- refusal 4: "zero where nonzero was asked"
abbrev pub nonzero : ℕ → Got ℕ → Got ℕ
nonzero at (got v next) = cond (eqb v 0) (bad 4 at) (got v next)
nonzero at (bad r place) = bad r place

unfoldable pub nonzero_at : List ℕ → ℕ → Got ℕ
nonzero_at s at = nonzero at (u64_at s at)
