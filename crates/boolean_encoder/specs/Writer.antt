-- 01, "Columns": the bytes of a boolean column. "The writer begins with a 0 when the list begins true; the empty list writes nothing."
use Rattle.std.specs.Prelude.{ℕ, suc, ◌-◌, List, [], ◌∷◌, ◌++◌, cond, eqb}
use Rattle.leb128.specs.Write.{u64_bytes}
use Rattle.encoding.specs.Flags.{any_flag}

-- one more in front of the first count
unfoldable pub add_one : List ℕ → List ℕ
add_one [] = 1 ∷ []
add_one (n ∷ ns) = suc n ∷ ns

-- the counts of a list, the first of them of the byte `flag`, the next of the other, and so on
unfoldable pub counts : ℕ → List ℕ → List ℕ
counts flag [] = []
counts flag (b ∷ xs) = cond (eqb b flag) (add_one (counts flag xs)) (0 ∷ add_one (counts (1 - flag) xs))

unfoldable pub counts_bytes : List ℕ → List ℕ
counts_bytes [] = []
counts_bytes (n ∷ ns) = u64_bytes n ++ counts_bytes ns

unfoldable pub bool_bytes : List ℕ → List ℕ
bool_bytes xs = counts_bytes (counts 0 xs)

-- "The all-false form .. writes no bytes when no value is true, otherwise the same bytes."
unfoldable pub maybe_bytes : List ℕ → List ℕ
maybe_bytes xs = cond (any_flag xs) (bool_bytes xs) []
