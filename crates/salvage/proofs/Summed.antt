-- Differences added up, and their sums' differences again: as many of those that were read. Assumes nothing.
use mathlib.Core.Path.{◌≡◌, refl, ◌∙◌, ap}
use mathlib.Core.List.{List, [], ◌∷◌, map}
use mathlib.Core.Option.{Option, none, some}
use mathlib.Core.Bool.{Bool, true, false, cond}
use lib.IntN.{ℤ, ◌+ℤ◌}
use lib.ListN.{length, take}
use Rattle.encoding.specs.Column.{Reading, absent, present, value}
use Rattle.encoding.specs.Walk.{Ending}
use Rattle.delta_decoder.specs.Difference.{holds}
use Rattle.delta_decoder.specs.Sums.{held_sum, added, add_up}
use Rattle.delta_encoder.specs.Differences.{differences}
use Rattle.delta_encoder.proofs.Back.{taken-off}

pub sums-back : (z : ℤ) (rs : List (Reading ℤ)) (e : Ending)
    → differences z (map value (add_up z rs e).readings) ≡ take (length (add_up z rs e).readings) (map value rs)
unfolding add_up differences value added held_sum
sums-back z [] e = refl
sums-back z (absent ∷ rs) e = ap (λ (l : List (Option ℤ)). none ∷ l) (sums-back z rs e)
sums-back z (present d q ∷ rs) e = go (holds (z +ℤ d)) (sums-back (z +ℤ d) rs e)
  where
    go : (t : Bool)
        → differences (z +ℤ d) (map value (add_up (z +ℤ d) rs e).readings) ≡ take (length (add_up (z +ℤ d) rs e).readings) (map value rs)
        → differences z (map value (added q (cond t (some (z +ℤ d)) none) (λ y. add_up y rs e)).readings)
        ≡ take (length (added q (cond t (some (z +ℤ d)) none) (λ y. add_up y rs e)).readings) (some d ∷ map value rs)
    go true h =
        ap (λ (x : ℤ). some x ∷ differences (z +ℤ d) (map value (add_up (z +ℤ d) rs e).readings)) (taken-off z d)
        ∙ ap (λ (l : List (Option ℤ)). some d ∷ l) h
    go false h = refl
