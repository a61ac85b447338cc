-- What is true of the digits of any bytes: what the private functions over them ask of their callers.
use Rattle.std.specs.Prelude.{ℕ, ◌*◌, ◌^◌, ◌<◌, ◌≤◌, ◌≡◌}

pub record Sound (low scale last count : ℕ) : Type 0 where
  pub below : low < scale
  pub power : scale * 128 ≡ 128 ^ count
  pub final : last < 128
  pub some : 0 < count
  pub ten : count ≤ 10
