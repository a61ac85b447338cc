-- 02, [5]: "a reader whose state the host keeps and lends". What the host keeps, K, are numbers, any numbers, that stand for a state S.
use Rattle.std.specs.Prelude.{ℕ, zero, suc, List, cond, ◌&&◌, length, eqb, leb}
use Rattle.encoding.specs.Walk.{fault}
use Rattle.encoding.specs.Column.{absent, present}
use Rattle.cursor.specs.Steps.{Stepped, ends, gives}
use Rattle.cursor.specs.Cursor.{Sort, same, literal}

-- "24, a state kept for a column of another length or standing beyond its end, place 0, before all others": a step of a state that was made
-- for a column of len bytes and stands at a position
unfoldable pub checked : {R S : Type 0} → ℕ → ℕ → List ℕ → Stepped R S → Stepped R S
checked len at s x = cond (eqb len (length s) && leb at (length s)) x (ends (fault 24 0))

-- the sort of a run by its number in a state: 0 absent, 1 a repeated value with its place, any other literal
unfoldable pub sort_of : {A : Type 0} → ℕ → A → ℕ → Sort A
sort_of sort a place = cond (eqb sort 0) (same absent) (cond (eqb sort 1) (same (present a place)) literal)

-- what the host's k is after a step: the numbers that keep the state behind it; a refusing call leaves it as it was, and so does the end
unfoldable pub leaves : {R S K : Type 0} → (S → K) → K → Stepped R S → K
leaves keep k (ends e) = k
leaves keep k (gives r d) = keep d

-- what it is after n calls, each of which makes k into `call k`
unfoldable pub after : {K : Type 0} → (K → K) → ℕ → K → K
after call zero k = k
after call (suc n) k = after call n (call k)
