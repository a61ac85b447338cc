-- The counts of a boolean column made reading by reading: what is known so far, and how readings change it. Private functions promise by it; no public
-- promise cites it.
use Rattle.std.specs.Prelude.{ℕ, zero, suc, ◌+◌, List, [], ◌∷◌, cond, eqb, length}
use Rattle.leb128.specs.Answer.{Answer, done}
use Rattle.leb128.specs.Write.{u64_bytes}
use Rattle.rewriting.specs.Cutter.{spending}

-- the bytes spent so far, the byte that is held and how many times it came: a 0 that came no times, at the beginning
pub record Turns : Type 0 where
  pub used : Answer
  pub flag : ℕ
  pub times : ℕ

abbrev pub turns : Answer → ℕ → ℕ → Turns
turns used flag times = record { used = used; flag = flag; times = times }

module _ (room : ℕ) where
  abbrev pub counting : Turns → Answer
  counting c = spending room (length (u64_bytes c.times)) c.used

  unfoldable pub turned_by : Turns → ℕ → ℕ → Turns
  turned_by c b zero = c
  turned_by c b (suc n) = cond (eqb b c.flag) (turns c.used b (c.times + suc n)) (turns (counting c) b (suc n))

  unfoldable pub turned_all : Turns → List ℕ → Turns
  turned_all c [] = c
  turned_all c (b ∷ xs) = turned_all (turned_by c b 1) xs

  -- at the end of a list of n readings
  unfoldable pub counted : ℕ → Turns → Answer
  counted zero c = done 0
  counted (suc n) c = counting c
