-- What every slice of bytes of the code is: each byte is one, and its length a number of 64 bits. The function `lent` proves it of any slice that it
-- is lent; the theorems over calls ask it (proofs/Demand3.antt). No public promise cites it.
use Rattle.std.specs.Prelude.{ℕ, ◌^◌, ◌<◌, List, length, get_or}

pub record Lent (s : List ℕ) : Type 0 where
  pub bytes : (i : ℕ) → get_or s i 0 < 256
  pub short : length s < 2 ^ 64
