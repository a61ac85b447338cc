-- A signed reading z is kept as the unsigned number z + 2^63. Assumes nothing.
use Rattle.std.specs.Prelude.{ℕ, suc, ◌+◌, ◌-◌, ◌^◌, ℤ, pos, negsuc}

unfoldable pub kept_of : ℤ → ℕ
kept_of (pos n) = 2 ^ 63 + n
kept_of (negsuc n) = 2 ^ 63 - suc n
