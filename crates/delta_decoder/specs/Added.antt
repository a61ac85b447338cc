-- A difference that is read and added to a sum at once: what the private functions of the reader promise one another.
use Rattle.std.specs.Prelude.{ℕ, ◌+◌, ◌*◌, ◌-◌, ◌/◌, ◌<◌, ◌≤◌, ◌≡◌, ◌⊎◌, ℤ, pos, negsuc}
use Rattle.std.specs.Prelude as code
use Rattle.std.proofs.Math.Option.{Option, none, some}
use Rattle.leb128.specs.Got.{Got, got, bad}
use Rattle.leb128.specs.Read.{fill}
use Rattle.delta_decoder.specs.Sofar.{plus}

-- the sum, kept as in Sofar, and the position behind the difference; or 6 at the difference
abbrev pub summed_at : ℕ → ℕ → Option ℕ → Got ℕ
summed_at at next none = bad 6 at
summed_at at next (some m) = got m next

-- what was read at a position, added to the sum n
abbrev pub adding : ℕ → ℕ → Got ℤ → Got ℕ
adding n at (got d next) = summed_at at next (plus n d)
adding n at (bad number place) = bad number place

-- how far an entry of the table of numbers of one byte stands above the mark, -128
abbrev pub over_mark : ℤ → ℕ
over_mark (pos n) = n + 128
over_mark (negsuc n) = 127 - n

-- an answer that is given at once is the one that is due
abbrev pub Nearly : code.Option (ℕ × ℕ) → Got ℕ → Type 0
Nearly (code.Some (m, next)) g = g ≡ got m next
Nearly code.None g = Unit {0}

-- the sum behind a difference whose bytes are b alone, or b and d: what is added to n, less what its sign takes
pub record Alone (b behind n m next : ℕ) : Type 0 where
  pub short : b < 128
  pub sum : m ≡ n + b - b / 64 * 128
  pub end : next ≡ behind

pub record Paired (b d behind n m next : ℕ) : Type 0 where
  pub first : 128 ≤ b
  pub last : d < 128
  pub strict : d ≡ fill b → ⊥
  pub sum : m ≡ n + (b - 128 + 128 * d) - d / 64 * 16384
  pub end : next ≡ behind + 1

abbrev pub NearBytes : ℕ → ℕ → ℕ → ℕ → code.Option (ℕ × ℕ) → Type 0
NearBytes b d behind n (code.Some (m, next)) = Alone b behind n m next ⊎ Paired b d behind n m next
NearBytes b d behind n code.None = Unit {0}
