-- What a run-length column needs of its element: u64, the differences of a delta column, text.
use Rattle.std.specs.Prelude.{ℕ, List, Bool}
use Rattle.leb128.specs.Got.{Got}

pub record Element (A : Type 0) : Type 0 where
  -- the value at a position, or its refusal
  pub read : List ℕ → ℕ → Got A
  -- its one encoding
  pub write : A → List ℕ
  pub same : A → A → Bool
  -- which values the writer takes
  pub fits : A → Bool
