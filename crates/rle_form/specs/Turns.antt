-- A sound column beside the stretches of the list that it reads as, run by run: what the private functions promise one another. No public promise cites it.
use Rattle.std.specs.Prelude.{ℕ, ◌-◌, ◌≤◌, ◌<◌, ◌≡◌, List, ◌++◌, pos, length, drop, Result, Ok, Err}
use Rattle.std.proofs.Math.Option.{some}
use Rattle.refusal.specs.Number.{number_of}
use Rattle.refusal.specs.declared.Refusal.{Refusal}
use Rattle.leb128.specs.Write.{u64_bytes, i64_bytes}
use Rattle.encoding.specs.Column.{spot, trace_from}
use Rattle.encoding.specs.Element.{Element}
use Rattle.encoding.specs.Limit.{limit}
use Rattle.encoding.specs.Stretches.{stretches}
use Rattle.encoding.specs.Walk.{Ending, sound, fault}
use Rattle.encoding.specs.Writer.{stretches_bytes}
use Rattle.encoding.specs.declared.StretchEnd.{StretchEnd}
use Rattle.encoding.specs.declared.StretchEnd.TheVariants as stretch
use Rattle.encoding.specs.Flags.{minus}
use Rattle.own_form.specs.Difference.{differ_at}
use Rattle.runs.specs.Pieces.{list_from}
use Rattle.count_place.specs.declared.Differs.{Differs}

-- how a column ends
abbrev pub ending_of : Result (Unit {0}) Refusal → Ending
ending_of (Ok done) = sound
ending_of (Err e) = fault (number_of e.0) e.1

-- how many readings a stretch has, and the numbers that it begins with
abbrev pub count_in : StretchEnd → ℕ
count_in (stretch.Absent n) = n
count_in (stretch.Repeat n) = n
count_in (stretch.Literal n) = n

abbrev pub count_bytes : StretchEnd → List ℕ
count_bytes (stretch.Absent n) = i64_bytes (pos 0) ++ u64_bytes n
count_bytes (stretch.Repeat n) = i64_bytes (pos n)
count_bytes (stretch.Literal n) = i64_bytes (minus n)

-- at a run's beginning in a column that ends soundly
pub record Sound {A : Type 0} (E : Element A) (s : List ℕ) (at had : ℕ) : Type 0 where
  pub inside : at ≤ length s
  pub few : had ≤ limit
  pub ending : (trace_from E s (spot at had)).ending ≡ sound

-- what is written for the rest of the list
abbrev pub stretched_from : {A : Type 0} → Element A → List ℕ → ℕ → ℕ → List ℕ
stretched_from E s at had = stretches_bytes E (stretches E.same (list_from E s at had))

-- the run is the writer's next stretch, and what is left is compared behind it; or they differ at a place
abbrev pub Turned : {A : Type 0} → Element A → List ℕ → ℕ → ℕ → Result (ℕ × ℕ) Differs → Type 0
Turned E s at had (Ok (next, n)) =
    Sound E s next n × (length s - next < length s - at)
    × (differ_at at (drop at s) (stretched_from E s at had) ≡ differ_at next (drop next s) (stretched_from E s next n))
Turned E s at had (Err e) = differ_at at (drop at s) (stretched_from E s at had) ≡ some e.0
