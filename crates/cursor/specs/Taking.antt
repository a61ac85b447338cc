-- 02, [5]: readings that a host takes a piece at a time. K is what it keeps, any numbers; a call for a single reading makes k into `call k` and
-- answers `answer k`.
use Rattle.std.specs.Prelude.{ℕ, zero, suc, ◌+◌, ◌<◌, ◌≡◌}
use Rattle.cursor.specs.Kept.{after}

-- n readings stand at k at once: call by call the answers are `reads 0`, `reads 1` and so on, and behind so many of them the host keeps d
pub record Stands {K B : Type 0} (call : K → K) (answer : K → B) (k : K) (n : ℕ) (reads : ℕ → B) (d : K) : Type 0 where
  pub says : (i : ℕ) → i < n → answer (after call i k) ≡ reads i
  pub leads : after call n k ≡ d

-- how many readings the first n pieces from k have: the piece at k has `times k` and leaves `past k`
unfoldable pub readings_in : {K : Type 0} → (K → ℕ) → (K → K) → ℕ → K → ℕ
readings_in times past zero k = 0
readings_in times past (suc n) k = readings_in times past n k + times (after past n k)
