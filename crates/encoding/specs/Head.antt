-- 01, "Columns": how a run begins, the same for every element. "A positive signed count, then one value: that value so often. A negative
-- count: so many values follow singly. Count 0, then an unsigned count: so many absent readings."
use Rattle.std.specs.Prelude.{ℕ, suc, ◌+◌, List, cond, leb, eqb, ℤ, pos, negsuc}
use Rattle.leb128.specs.Got.{Got, got, bad}
use Rattle.leb128.specs.Read.{u64_at, i64_at}
use Rattle.leb128.specs.Short.{i64_by}
use Rattle.encoding.specs.Limit.{limit}

-- so many times the value at a position; so many literal values from a position on; so many absent readings, with the position behind
-- them; or a refusal's number and place
pub data Head : Type 0 where
  repeat : ℕ → ℕ → Head
  literal : ℕ → ℕ → Head
  absent : ℕ → ℕ → Head
  amiss : ℕ → ℕ → Head

-- "A count is judged for 5 when read, before its values": had readings came before, c more are announced by the number at a place
abbrev pub judged : ℕ → ℕ → ℕ → Head → Head
judged had c place h = cond (leb (had + c) limit) h (amiss 5 place)

-- the second number of an absent run stands at q
unfoldable pub absent_head : ℕ → ℕ → Got ℕ → Head
absent_head had q (got c next) = judged had c q (Head.absent c next)
absent_head had q (bad number place) = amiss number place

unfoldable pub begun : List ℕ → ℕ → ℕ → Got ℤ → Head
begun s at had (got (pos c) q) = cond (eqb c 0) (absent_head had q (u64_at s q)) (judged had c at (Head.repeat c q))
begun s at had (got (negsuc c) q) = judged had (suc c) at (Head.literal (suc c) q)
begun s at had (bad number place) = amiss number place

-- how the run at a position begins, before which there are `had` readings
unfoldable pub head_at : List ℕ → ℕ → ℕ → Head
head_at s at had = begun s at had (i64_at s at)

-- the same, where a count of one byte is answered by the table that is lent
unfoldable pub head_by : List ℤ → List ℕ → ℕ → ℕ → Head
head_by table s at had = begun s at had (i64_by table s at)
