-- 02, [5]: a cursor in a boolean column, and one step of it. A run is one count; it has one byte for all its readings.
use Rattle.std.specs.Prelude.{ℕ, suc, ◌+◌, ◌-◌, List, cond, length, replicate, ltb, leb}
use Rattle.leb128.specs.Got.{Got, got, bad}
use Rattle.leb128.specs.Read.{u64_at}
use Rattle.encoding.specs.Limit.{limit}
use Rattle.encoding.specs.Walk.{Trace, Next, over, on, off, before}
use Rattle.cursor.specs.Steps.{Stepped, gives, ready, drawn}
use Rattle.boolean_decoder.specs.Turns.{turn, turns_from}

-- the position of the next count, how many readings come before it, how many of the present count are left, and which byte they are
pub record TurnCursor : Type 0 where
  pub at : ℕ
  pub had : ℕ
  pub left : ℕ
  pub flag : ℕ

abbrev pub turning : ℕ → ℕ → ℕ → ℕ → TurnCursor
turning at had left flag = record { at = at; had = had; left = left; flag = flag }

-- the byte that a flag stands for: 0, or 1 for any other
abbrev pub byte_of : ℕ → ℕ
byte_of flag = 1 - (1 - flag)

-- before the first count, which is of false
abbrev pub turn_fresh : TurnCursor
turn_fresh = turning 0 0 0 1

-- into the next count, at a position, behind `had` readings and a count of `flag`; it is judged for 5 when read
unfoldable pub counting : ℕ → ℕ → ℕ → Got ℕ → Next TurnCursor
counting at had flag (got n next) = cond (leb (had + n) limit) (on (turning next (had + n) n (1 - flag))) (off 5 at)
counting at had flag (bad number place) = off number place

unfoldable pub enter_turn : List ℕ → ℕ → ℕ → ℕ → Next TurnCursor
enter_turn s at had flag = cond (ltb at (length s)) (counting at had flag (u64_at s at)) over

-- the first cursor with a reading left: this one, or one in a later count
unfoldable pub turn_ready : List ℕ → TurnCursor → Next TurnCursor
turn_ready s c = ready (λ d. d.left) (λ d. enter_turn s d.at d.had d.flag) (suc (length s - c.at)) c

-- one reading of the present count
unfoldable pub one_turn : TurnCursor → Stepped ℕ TurnCursor
one_turn c = gives (byte_of c.flag) (turning c.at c.had (c.left - 1) c.flag)

-- ONE STEP, from any cursor
unfoldable pub turn_step : List ℕ → TurnCursor → Stepped ℕ TurnCursor
turn_step s c = drawn one_turn (turn_ready s c)

-- what is to come: what is left of the present count, then the rest of the column
unfoldable pub turn_coming : List ℕ → TurnCursor → Trace ℕ
turn_coming s c = before (replicate c.left (byte_of c.flag)) (turns_from s (turn c.at c.had (1 - c.flag)))
