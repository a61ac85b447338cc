-- 01, "Columns": the meaning of a boolean column's bytes. "Boolean: unsigned counts of false, true, false and so on. .. The reader takes
-- zeros anywhere." A reading is its byte, 0 or 1.
use Rattle.std.specs.Prelude.{ℕ, ◌+◌, ◌-◌, List, cond, length, replicate, ltb, leb}
use Rattle.leb128.specs.Got.{Got, got, bad}
use Rattle.leb128.specs.Read.{u64_at}
use Rattle.encoding.specs.Limit.{limit}
use Rattle.encoding.specs.Walk.{Run, whole, cut, stop, Trace, walk}

-- the state between counts: the position of the next one, how many readings came before it, and which byte it counts
pub record Turn : Type 0 where
  pub at : ℕ
  pub had : ℕ
  pub flag : ℕ

abbrev pub turn : ℕ → ℕ → ℕ → Turn
turn at had flag = record { at = at; had = had; flag = flag }

-- one count, judged for 5 when read
unfoldable pub counted : Turn → Got ℕ → Run ℕ Turn
counted st (got c next) =
    cond (leb (st.had + c) limit) (whole (replicate c st.flag) (turn next (st.had + c) (1 - st.flag))) (cut 5 st.at)
counted st (bad number place) = cut number place

unfoldable pub turn_at : List ℕ → Turn → Run ℕ Turn
turn_at s st = cond (ltb st.at (length s)) (counted st (u64_at s st.at)) stop

-- the rest of a column from a state on, and the whole column; "an empty column is an empty list"
unfoldable pub turns_from : List ℕ → Turn → Trace ℕ
turns_from s st = walk (turn_at s) (length s - st.at) st

unfoldable pub bool_trace : List ℕ → Trace ℕ
bool_trace s = turns_from s (turn 0 0 0)
