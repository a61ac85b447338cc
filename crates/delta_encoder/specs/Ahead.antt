-- Looking ahead over a given list for its next stretch of differences: what the private functions of the writer ask and promise. No public
-- promise cites it.
use Rattle.std.specs.Prelude.{ℕ, zero, suc, ◌^◌, ◌<◌, ◌≡◌, List, [], ◌∷◌, true, cond, eqb, ℤ, pos, ◌-ℤ◌, length, get_or}
use Rattle.std.specs.Int.Signed.{mag}
use Rattle.delta_decoder.specs.Difference.{holds}

-- the differences with their indices kept, 0 where a reading is absent; the first taken from z
unfoldable pub diffs_of : ℤ → List ℤ → List ℕ → List ℤ
diffs_of z [] p = []
diffs_of z (v ∷ vs) [] = []
diffs_of z (v ∷ vs) (b ∷ p) = cond (eqb b 0) (pos 0 ∷ diffs_of z vs p) ((v -ℤ z) ∷ diffs_of v vs p)

abbrev pub diffs : List ℤ → List ℕ → List ℤ
diffs v p = diffs_of (pos 0) v p

-- the last value that is present before an index, or z
unfoldable pub last_of : ℤ → List ℤ → List ℕ → ℕ → ℤ
last_of z v p zero = z
last_of z [] p (suc i) = z
last_of z (v ∷ vs) [] (suc i) = z
last_of z (v ∷ vs) (b ∷ p) (suc i) = last_of (cond (eqb b 0) z v) vs p i

abbrev pub last_before : List ℤ → List ℕ → ℕ → ℤ
last_before v p i = last_of (pos 0) v p i

-- an even list, each of whose differences an i64 holds
pub record Narrow (v : List ℤ) (p : List ℕ) : Type 0 where
  pub even : length p ≡ length v
  pub held : (k : ℕ) → k < length v → holds (get_or (diffs v p) k (pos 0)) ≡ true

-- the first n values are near to 0: an i64 holds the difference of any two
abbrev pub Near : List ℤ → ℕ → Type 0
Near v n = (k : ℕ) → k < n → mag (get_or v k (pos 0)) < 2 ^ 62
