-- 01, "Columns": the meaning of a delta column's bytes: the sums of the differences that it reads as. "Absent readings pass through and
-- change no sum." Refusal 6: "a delta sum leaves i64", with the place of the delta.
use Rattle.std.specs.Prelude.{ℕ, List, [], ◌∷◌, cond, ℤ, pos, ◌+ℤ◌}
use Rattle.std.proofs.Math.Option.{Option, none, some}
use Rattle.encoding.specs.Walk.{Ending, fault, Trace}
use Rattle.encoding.specs.Column.{Reading, absent, present, trace}
use Rattle.delta_decoder.specs.Difference.{i64_e, holds}

-- the sum, where an i64 holds it
unfoldable pub held_sum : ℤ → ℤ → Option ℤ
held_sum z d = cond (holds (z +ℤ d)) (some (z +ℤ d)) none

abbrev pub front : Reading ℤ → Trace (Reading ℤ) → Trace (Reading ℤ)
front x t = record { readings = x ∷ t.readings; ending = t.ending }

unfoldable pub added : ℕ → Option ℤ → (ℤ → Trace (Reading ℤ)) → Trace (Reading ℤ)
added place none k = record { readings = []; ending = fault 6 place }
added place (some z) k = front (present z place) (k z)

-- differences added up from z on, before an ending
unfoldable pub add_up : ℤ → List (Reading ℤ) → Ending → Trace (Reading ℤ)
add_up z [] e = record { readings = []; ending = e }
add_up z (absent ∷ rs) e = front absent (add_up z rs e)
add_up z (present d place ∷ rs) e = added place (held_sum z d) (λ y. add_up y rs e)

unfoldable pub delta_trace : List ℕ → Trace (Reading ℤ)
delta_trace s = add_up (pos 0) (trace i64_e s).readings (trace i64_e s).ending

-- 02, [3]: "for 6, the sum before": the sum that readings lead to from z on
abbrev pub last_sum : ℤ → List (Reading ℤ) → ℤ
last_sum z [] = z
last_sum z (absent ∷ rs) = last_sum z rs
last_sum z (present a place ∷ rs) = last_sum a rs
