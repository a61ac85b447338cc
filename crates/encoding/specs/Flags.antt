-- What the public functions answer that look over presence bytes and give a run's count. Assumes nothing.
use Rattle.std.specs.Prelude.{ℕ, zero, suc, List, [], ◌∷◌, Bool, true, false, cond, eqb, ℤ, pos, negsuc}

-- how many zeros presence bytes begin with
unfoldable pub zeros : List ℕ → ℕ
zeros [] = 0
zeros (b ∷ p) = cond (eqb b 0) (suc (zeros p)) 0

-- is any of them not 0?
unfoldable pub any_flag : List ℕ → Bool
any_flag [] = false
any_flag (b ∷ p) = cond (eqb b 0) (any_flag p) true

-- -n, the count of a literal run of n values
unfoldable pub minus : ℕ → ℤ
minus zero = pos 0
minus (suc n) = negsuc n
