-- Refusal 5: "a list passes 4,294,967,295 values".
use Rattle.std.specs.Prelude.{ℕ}

abbrev pub limit : ℕ
limit = 4294967295
