-- What decimal digits stand for, and the readings that they are.
use Rattle.std.specs.Prelude.{ℕ, ◌+◌, ◌-◌, ◌*◌, ◌^◌, cond, List, [], ◌∷◌, ltb, leb, eqb, Result, Ok, Err}
use Rattle.decimal.specs.declared.DecimalError.{DecimalError}
use Rattle.decimal.specs.declared.DecimalError.TheVariants.{NoNumber, TooLarge}
use Rattle.decimal.specs.declared.ReadingError.{ReadingError}
use Rattle.decimal.specs.declared.ReadingError.TheVariants as reading

-- the number v with the digit b behind it
abbrev pub with_digit : ℕ → ℕ → Result ℕ DecimalError
with_digit v b =
    cond (ltb b 48) (Err NoNumber)
    (cond (ltb 57 b) (Err NoNumber) (cond (ltb (v * 10 + (b - 48)) (2 ^ 64)) (Ok (v * 10 + (b - 48))) (Err TooLarge)))

-- a number goes on to f; what is no number, or too large, stays so
abbrev pub onward : Result ℕ DecimalError → (ℕ → Result ℕ DecimalError) → Result ℕ DecimalError
onward (Ok v) f = f v
onward (Err e) f = Err e

-- the digits of a text behind those that stand for v; the first byte that is no digit, or that makes the number too large, decides
abbrev pub behind : ℕ → List ℕ → Result ℕ DecimalError
behind v [] = Ok v
behind v (b ∷ s) = onward (with_digit v b) (λ w. behind w s)

-- the number that a text stands for
abbrev pub decimal_of : List ℕ → Result ℕ DecimalError
decimal_of [] = Err NoNumber
decimal_of (b ∷ s) = behind 0 (b ∷ s)

-- no number is no reading, and one that is too large is out of range
abbrev pub reading_error : DecimalError → ReadingError
reading_error NoNumber = reading.NoNumber
reading_error TooLarge = reading.OutOfRange

-- a signed reading is kept as the number that is 2^63 more: here from its digits without a sign
abbrev pub raised_of : Result ℕ DecimalError → Result ℕ ReadingError
raised_of (Ok n) = cond (ltb n (2 ^ 63)) (Ok (2 ^ 63 + n)) (Err reading.OutOfRange)
raised_of (Err e) = Err (reading_error e)

-- and here from its digits behind a minus sign
abbrev pub lowered_of : Result ℕ DecimalError → Result ℕ ReadingError
lowered_of (Ok n) = cond (leb n (2 ^ 63)) (Ok (2 ^ 63 - n)) (Err reading.OutOfRange)
lowered_of (Err e) = Err (reading_error e)

-- a reading of a kind that is never below 0 is kept as it is
abbrev pub plain_of : Result ℕ DecimalError → Result ℕ ReadingError
plain_of (Ok n) = Ok n
plain_of (Err e) = Err (reading_error e)

-- and behind a minus sign it is out of range
abbrev pub outside_of : Result ℕ DecimalError → Result ℕ ReadingError
outside_of (Ok n) = Err reading.OutOfRange
outside_of (Err e) = Err (reading_error e)

-- the reading that a text stands for, with or without a minus sign
abbrev pub signed_of : List ℕ → Result ℕ ReadingError
signed_of [] = Err reading.NoNumber
signed_of (b ∷ s) = cond (eqb b 45) (lowered_of (decimal_of s)) (raised_of (decimal_of (b ∷ s)))

-- the same in a kind that is never below 0
abbrev pub unsigned_of : List ℕ → Result ℕ ReadingError
unsigned_of [] = Err reading.NoNumber
unsigned_of (b ∷ s) = cond (eqb b 45) (outside_of (decimal_of s)) (plain_of (decimal_of (b ∷ s)))
