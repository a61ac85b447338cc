-- What the private functions' answers stand for: the ranges of the bytes that are due.
use Rattle.std.specs.Prelude.{ℕ, zero, suc, List, [], ◌∷◌, Option, Some, None, cond, replicate}
use Rattle.std.proofs.Math.Option as math
use Rattle.std.proofs.Math.Option.{none, some}
use Rattle.utf8.specs.Utf8.{Range, range, among, tail, follow}
use Rattle.utf8.specs.declared.Due.{Due}

-- n bytes, the first of them from low to high
abbrev pub ranges : ℕ → ℕ → ℕ → List Range
ranges zero low high = []
ranges (suc n) low high = range low high ∷ replicate n tail

abbrev pub ranges_of : Due → List Range
ranges_of d = ranges d.count d.low d.high

-- what is due behind the byte b, where these ranges were due before it
abbrev pub behind : List Range → ℕ → math.Option (List Range)
behind [] b = follow b
behind (r ∷ rs) b = cond (among r b) (some rs) none

abbrev pub due_of : Option Due → math.Option (List Range)
due_of (Some d) = some (ranges_of d)
due_of None = none
