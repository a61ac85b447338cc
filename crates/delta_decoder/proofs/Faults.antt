-- A delta column's fault has a refusal's number, never 0. Assumes nothing.
use mathlib.Core.List.{List, [], ◌∷◌}
use mathlib.Core.Option.{Option, none, some}
use Prim.Native.Nat.{ℕ}
use native.Mathlib.Omega.{arith}
use lib.IntN.{ℤ, pos}
use Rattle.leb128.proofs.Refusals.{i64-fault}
use Rattle.encoding.specs.Walk.{Ending, Trace}
use Rattle.encoding.specs.Column.{Reading, absent, present, trace}
use Rattle.encoding.proofs.Faults.{Numbered, trace-numbered}
use Rattle.delta_decoder.specs.Difference.{i64_e}
use Rattle.delta_decoder.specs.Sums.{held_sum, added, add_up, delta_trace}

added-numbered : (place : ℕ) (w : Option ℤ) (k : ℤ → Trace (Reading ℤ)) → ((z : ℤ) → Numbered (k z).ending) → Numbered (added place w k).ending
unfolding added
added-numbered place none k h = omega arith
added-numbered place (some z) k h = h z

up-numbered : (z : ℤ) (rs : List (Reading ℤ)) (e : Ending) → Numbered e → Numbered (add_up z rs e).ending
unfolding add_up
up-numbered z [] e h = h
up-numbered z (absent ∷ rs) e h = up-numbered z rs e h
up-numbered z (present d place ∷ rs) e h = added-numbered place (held_sum z d) (λ y. add_up y rs e) (λ y. up-numbered y rs e h)

pub delta-numbered : (s : List ℕ) → Numbered (delta_trace s).ending
unfolding delta_trace
delta-numbered s = up-numbered (pos 0) (trace i64_e s).readings (trace i64_e s).ending (trace-numbered i64_e s (i64-fault s))
