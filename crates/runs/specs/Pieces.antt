-- 01, "Columns", and 02, [1]: a run-length column walked a piece at a time, whatever its values are: a reading, how many times it stands there at once, and
-- what comes behind it. At a fault the list ends, as the readings do.
use Rattle.std.specs.Prelude.{ℕ, ◌-◌, ◌≤◌, ◌≡◌, List, [], ◌++◌, map, Bool, true, false, replicate, Some, None}
use Rattle.std.specs.Prelude as code
use Rattle.std.proofs.Math.Option.{Option, none, some}
use Rattle.leb128.specs.Got.{Got, got, bad}
use Rattle.encoding.specs.Column.{Reading, value, Spot, spot, literals, trace_from}
use Rattle.encoding.specs.Element.{Element}
use Rattle.encoding.specs.Walk.{Run, onward}
use Rattle.runs.specs.declared.walk.Piece.{Piece}

-- a reading that is held, by the place of its value's bytes
abbrev pub Held : Type 0
Held = code.Option (ℕ × ℕ)

-- the reading that is held: a value is what is read where its bytes begin
abbrev pub read_of : {A : Type 0} → Got A → Option A
read_of (got a next) = some a
read_of (bad number place) = none

abbrev pub held_in : {A : Type 0} → Element A → List ℕ → Held → Option A
held_in E s None = none
held_in E s (Some (from, till)) = read_of (E.read s from)

-- a value was read there, and ends where it is said to
abbrev pub Within : {A : Type 0} → Element A → List ℕ → Held → Type 0
Within E s None = Unit {0}
Within {A} E s (Some (from, till)) = (a : A) × (E.read s from ≡ got a till)

-- no reading is held, and the run at a position comes next
abbrev pub before_run : ℕ → ℕ → Piece
before_run at had = record { held = None; times = 0; at = at; had = had; left = 0 }

-- the list from a run on, where the run is known; and from the run at a position on, before which there are `had` readings
abbrev pub values_in : {A : Type 0} → Element A → List ℕ → Run (Reading A) Spot → List (Option A)
values_in E s r = map value (onward r (λ z. trace_from E s z)).readings

abbrev pub list_from : {A : Type 0} → Element A → List ℕ → ℕ → ℕ → List (Option A)
list_from E s at had = map value (trace_from E s (spot at had)).readings

-- what comes behind the reading that is held; and all from that reading on
abbrev pub rest_of : {A : Type 0} → Element A → List ℕ → Piece → List (Option A)
rest_of E s p = values_in E s (literals E s p.had p.left p.at)

abbrev pub list_of : {A : Type 0} → Element A → List ℕ → Piece → List (Option A)
list_of E s p = replicate p.times (held_in E s p.held) ++ rest_of E s p

-- the first piece of xs; it may have no reading, and then a run comes next
pub record Onto {A : Type 0} (E : Element A) (s : List ℕ) (xs : List (Option A)) (p : Piece) : Type 0 where
  pub within : Within E s p.held
  pub list : list_of E s p ≡ xs
  pub spare : p.times ≡ 0 → p.left ≡ 0

-- a piece; the list is at its end where it has no reading
pub record Going {A : Type 0} (E : Element A) (s : List ℕ) (p : Piece) : Type 0 where
  pub within : Within E s p.held
  pub ended : p.times ≡ 0 → list_of E s p ≡ []

-- is it absent
abbrev pub AbsentIf : Held → Bool → Type 0
AbsentIf h true = h ≡ None
AbsentIf h false = h ≡ None → ⊥

-- how many bytes it has, which stand in order
abbrev pub size_in : Held → ℕ
size_in None = 0
size_in (Some (from, till)) = till - from

abbrev pub Ordered : Held → Type 0
Ordered None = Unit {0}
Ordered (Some (from, till)) = from ≤ till
