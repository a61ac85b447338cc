-- Looking ahead over a list for the end of equal bytes: what the private functions of the writer ask and promise. No public promise cites it.
use Rattle.std.specs.Prelude.{ℕ, suc, ◌≤◌, ◌<◌, List, [], ◌∷◌, cond, eqb, length, get_or}

-- how many bytes equal to `flag` a list begins with
unfoldable pub alike : ℕ → List ℕ → ℕ
alike flag [] = 0
alike flag (b ∷ xs) = cond (eqb b flag) (suc (alike flag xs)) 0

-- each byte is 0 or 1
abbrev pub Flags : List ℕ → Type 0
Flags xs = (k : ℕ) → k < length xs → get_or xs k 0 ≤ 1
