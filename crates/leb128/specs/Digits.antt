-- 01, "Numbers": "Seven bits a byte, lowest first, bit 7 meaning more follows. The tenth byte is the last possible; if it has bit 7
-- set the number is too large." A number's bytes up to its final byte, the first below 128.
use Rattle.std.specs.Prelude.{ℕ, ◌+◌, ◌*◌, ◌-◌, List, [], ◌∷◌, cond, ltb, eqb}

-- what the bytes before the final one add up to, what the final one counts for, the byte before it (0 where there is none), the final
-- byte itself and how many bytes there are; or a refusal's number
pub data Digits : Type 0 where
  whole : ℕ → ℕ → ℕ → ℕ → ℕ → Digits
  broken : ℕ → Digits

-- a byte that counts d, in front of them
abbrev pub more : ℕ → Digits → Digits
more d (whole low scale prev last count) = whole (d + 128 * low) (128 * scale) prev last (count + 1)
more d (broken r) = broken r

-- 02, [8], the refusal where the bytes end behind n of a number's: 1 "stays for bytes that end after one with bit 7 set; nothing at all
-- where a number is due becomes the new one", 21
abbrev pub ended : ℕ → ℕ
ended n = cond (eqb n 0) 21 1

-- the digits of the bytes that stand behind n others, the last of them prev
abbrev pub digits : ℕ → ℕ → List ℕ → Digits
digits n prev [] = broken (ended n)
digits n prev (b ∷ bs) =
    let rest = more (b - 128) (digits (n + 1) b bs) in
    cond (ltb b 128) (whole 0 1 prev b 1) (cond (eqb n 9) (broken 2) rest)
