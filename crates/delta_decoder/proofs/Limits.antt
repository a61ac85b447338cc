-- No delta column reads as more readings than the limit, a faulty one neither; and every reading is one that an i64 holds. Assumes nothing.
use Prim.Native.Nat.{ℕ, suc, ◌≤◌}
use mathlib.Core.Path.{◌≡◌, refl}
use mathlib.Core.List.{List, [], ◌∷◌}
use mathlib.Core.Option.{Option, none, some}
use mathlib.Core.Bool.{Bool, true, false, cond}
use native.Mathlib.Omega.{arith}
use lib.IntN.{ℤ, pos, ◌+ℤ◌}
use lib.ListN.{length}
use Rattle.encoding.specs.Column.{Reading, absent, present, trace}
use Rattle.encoding.specs.Limit.{limit}
use Rattle.encoding.specs.Walk.{Ending}
use Rattle.encoding.proofs.Limits.{trace-limit}
use Rattle.encoding.proofs.Readable.{Fits}
use Rattle.delta_decoder.specs.Difference.{i64_e, holds}
use Rattle.delta_decoder.specs.Sums.{held_sum, added, add_up, delta_trace}
use Rattle.delta_decoder.proofs.DifferenceLaws.{i64-laws}

sums-most : (z : ℤ) (rs : List (Reading ℤ)) (e : Ending) → length (add_up z rs e).readings ≤ length rs
unfolding add_up added
sums-most z [] e = omega arith
sums-most z (absent ∷ rs) e = let h = sums-most z rs e in omega arith
sums-most z (present d q ∷ rs) e = go (held_sum z d) (λ y. sums-most y rs e)
  where
    go : (o : Option ℤ) → ((y : ℤ) → length (add_up y rs e).readings ≤ length rs) → length (added q o (λ y. add_up y rs e)).readings ≤ suc (length rs)
    go none h = omega arith
    go (some y) h = let k = h y in omega arith

pub delta-limit : (s : List ℕ) → length (delta_trace s).readings ≤ limit
unfolding delta_trace
delta-limit s = omega (arith, sums-most (pos 0) (trace i64_e s).readings (trace i64_e s).ending, trace-limit i64_e i64-laws s)

sums-held : (z : ℤ) (rs : List (Reading ℤ)) (e : Ending) → Fits i64_e (add_up z rs e).readings
unfolding add_up added held_sum
sums-held z [] e = tt
sums-held z (absent ∷ rs) e = sums-held z rs e
sums-held z (present d q ∷ rs) e = go (holds (z +ℤ d)) refl (sums-held (z +ℤ d) rs e)
  where
    go : (t : Bool) → holds (z +ℤ d) ≡ t → Fits i64_e (add_up (z +ℤ d) rs e).readings
        → Fits i64_e (added q (cond t (some (z +ℤ d)) none) (λ y. add_up y rs e)).readings
    go true h k = (h, k)
    go false h k = tt

pub delta-held : (s : List ℕ) → Fits i64_e (delta_trace s).readings
unfolding delta_trace
delta-held s = sums-held (pos 0) (trace i64_e s).readings (trace i64_e s).ending
