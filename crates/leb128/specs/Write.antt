-- 01, "Numbers": "Every signed number from -2^63 to 2^63-1 has one accepted encoding, and writing gives that one; unsigned numbers to
-- 2^64-1 likewise."
use Rattle.std.specs.Prelude.{ℕ, zero, suc, ◌+◌, ◌-◌, ◌/◌, ◌%◌, List, [], ◌∷◌, ◌++◌, Bool, true, false, cond, ltb, leb, ℤ, pos, negsuc, length, take, drop}
use Rattle.leb128.specs.Answer.{Answer, done, refused}

-- the seven bits d, complemented in a negative number
abbrev pub group : Bool → ℕ → ℕ
group neg d = cond neg (127 - d) d

-- seven bits a byte, lowest first; the final byte has less than limit. Ten bytes serve for 64 bits
abbrev pub encoded_from : ℕ → ℕ → Bool → ℕ → List ℕ
encoded_from zero limit neg v = []
encoded_from (suc f) limit neg v =
    let rest = (128 + group neg (v % 128)) ∷ encoded_from f limit neg (v / 128) in
    cond (ltb v limit) (group neg v ∷ []) rest

unfoldable pub encoded : ℕ → Bool → ℕ → List ℕ
encoded limit neg v = encoded_from 10 limit neg v

-- an unsigned final byte has seven bits for the value
abbrev pub u64_bytes : ℕ → List ℕ
u64_bytes v = encoded 128 false v

-- a signed one has six, and the sign; negsuc n is -(n + 1), whose bits are those of n complemented
abbrev pub i64_bytes : ℤ → List ℕ
i64_bytes (pos n) = encoded 64 false n
i64_bytes (negsuc n) = encoded 64 true n

-- bytes put into an output at a position, and the position behind them; where they do not fit, refusal 10 and nothing changed
abbrev pub fits_at : List ℕ → ℕ → List ℕ → Bool
fits_at out at bs = leb (at + length bs) (length out)

unfoldable pub put_at : List ℕ → ℕ → List ℕ → Answer
put_at out at bs = cond (fits_at out at bs) (done (at + length bs)) (refused 10 0)

unfoldable pub put_out : List ℕ → ℕ → List ℕ → List ℕ
put_out out at bs = cond (fits_at out at bs) (take at out ++ (bs ++ drop (at + length bs) out)) out
