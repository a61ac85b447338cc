-- What reading at a position of some bytes gives, whatever is read there.
use Rattle.std.specs.Prelude.{ℕ}

-- a value and the position behind it; or a refusal's number and place
pub data Got (A : Type 0) : Type 0 where
  got : A → ℕ → Got A
  bad : ℕ → ℕ → Got A
