-- 02, [5]: a cursor in a run-length column, over the element, and one step of it.
use Rattle.std.specs.Prelude.{ℕ, suc, ◌+◌, ◌-◌, List, cond, length, replicate, ltb}
use Rattle.leb128.specs.Got.{Got, got, bad}
use Rattle.encoding.specs.Walk.{fault, Trace, Run, Next, over, on, off, whole, onward}
use Rattle.encoding.specs.Element.{Element}
use Rattle.encoding.specs.Head.{Head, amiss, head_at}
use Rattle.encoding.specs.Column.{Reading, absent, present, Spot, spot, literals, trace_from}
use Rattle.cursor.specs.Steps.{Stepped, ends, gives, ready, drawn}

-- what is left of a run: the same reading every time, absent or a repeated value with its place; or literal values
pub data Sort (A : Type 0) : Type 0 where
  same : Reading A → Sort A
  literal : Sort A

-- the position of what comes next, how many readings come before the next run, how many of the present run are left, and its sort
pub record Cursor (A : Type 0) : Type 0 where
  pub at : ℕ
  pub had : ℕ
  pub left : ℕ
  pub sort : Sort A

abbrev pub cursor : {A : Type 0} → ℕ → ℕ → ℕ → Sort A → Cursor A
cursor at had left sort = record { at = at; had = had; left = left; sort = sort }

-- before the first run
abbrev pub fresh : {A : Type 0} → Cursor A
fresh = cursor 0 0 0 (same absent)

-- ---- into the next run

-- a repeated run of c readings, whose value stands at q: "a repeated run with an unreadable value gives none"
unfoldable pub carried : {A : Type 0} → ℕ → ℕ → ℕ → Got A → Next (Cursor A)
carried had c q (got a next) = on (cursor next (had + c) c (same (present a q)))
carried had c q (bad number place) = off number place

unfoldable pub entered : {A : Type 0} → Element A → List ℕ → ℕ → Head → Next (Cursor A)
entered E s had (Head.repeat c q) = carried had c q (E.read s q)
entered E s had (Head.literal c q) = on (cursor q (had + c) c literal)
entered E s had (Head.absent c next) = on (cursor next (had + c) c (same absent))
entered E s had (amiss number place) = off number place

-- the run at a position, before which there are `had` readings
unfoldable pub enter : {A : Type 0} → Element A → List ℕ → ℕ → ℕ → Next (Cursor A)
enter E s at had = cond (ltb at (length s)) (entered E s had (head_at s at had)) over

-- the first cursor with a reading left: this one, or one in a later run
unfoldable pub ready_at : {A : Type 0} → Element A → List ℕ → Cursor A → Next (Cursor A)
ready_at E s c = ready (λ d. d.left) (λ d. enter E s d.at d.had) (suc (length s - c.at)) c

-- ---- one reading of the present run

-- the literal value at the cursor
unfoldable pub one_literal : {A : Type 0} → Cursor A → Got A → Stepped (Reading A) (Cursor A)
one_literal c (got a next) = gives (present a c.at) (cursor next c.had (c.left - 1) literal)
one_literal c (bad number place) = ends (fault number place)

unfoldable pub one_of : {A : Type 0} → Element A → List ℕ → Cursor A → Sort A → Stepped (Reading A) (Cursor A)
one_of E s c (same r) = gives r (cursor c.at c.had (c.left - 1) (same r))
one_of E s c literal = one_literal c (E.read s c.at)

abbrev pub one : {A : Type 0} → Element A → List ℕ → Cursor A → Stepped (Reading A) (Cursor A)
one E s c = one_of E s c c.sort

-- ONE STEP, from any cursor
unfoldable pub step : {A : Type 0} → Element A → List ℕ → Cursor A → Stepped (Reading A) (Cursor A)
step E s c = drawn (one E s) (ready_at E s c)

-- ---- what is to come at any cursor: what is left of the present run, then the rest of the column

unfoldable pub left_of : {A : Type 0} → Element A → List ℕ → Cursor A → Sort A → Run (Reading A) Spot
left_of E s c (same r) = whole (replicate c.left r) (spot c.at c.had)
left_of E s c literal = literals E s c.had c.left c.at

unfoldable pub coming : {A : Type 0} → Element A → List ℕ → Cursor A → Trace (Reading A)
coming E s c = onward (left_of E s c c.sort) (λ z. trace_from E s z)
