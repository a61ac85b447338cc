-- THE ROUND TRIP of delta columns: a list whose values and differences an i64 holds reads back soundly as itself; a list with no value
-- present writes nothing, and nothing reads as the empty list. Any list takes at most 11 bytes a reading. And what was read can be written.
-- Assumes nothing.
use Prim.Native.Nat.{ℕ, suc, ◌*◌, ◌≤◌, ◌<◌}
use mathlib.Core.Path.{◌≡◌, refl, ◌∙◌, ap}
use mathlib.Core.List.{List, [], ◌∷◌, map}
use mathlib.Core.Option.{Option, none, some}
use mathlib.Core.Bool.{Bool, true, false, cond}
use native.Mathlib.Omega.{arith}
use lib.ListN.{length, get_or}
use lib.IntN.{ℤ, pos, ◌+ℤ◌, ◌-ℤ◌, -ℤ-+ℤ_cancel, +ℤ-neg_ℤ_cancel, +ℤ_comm}
use Rattle.encoding.specs.Limit.{limit}
use Rattle.encoding.specs.Walk.{Ending}
use Rattle.encoding.specs.Column.{Reading, absent, present, value, trace}
use Rattle.encoding.specs.Writer.{any_present, column_bytes}
use Rattle.encoding.proofs.Back.{ListFits, round_trip, no_value, nothing-reads}
use Rattle.encoding.proofs.Readable.{Fits, trace-fits}
use Rattle.encoding.proofs.Sizes.{column-eleven}
use Rattle.delta_decoder.specs.Difference.{i64_e, holds}
use Rattle.delta_encoder.specs.Differences.{differences, delta_bytes, wide_at}
use Rattle.delta_decoder.specs.Sums.{held_sum, added, add_up, delta_trace}
use Rattle.delta_decoder.proofs.DifferenceLaws.{i64-laws, i64-ten}

-- an i64 holds each value
abbrev pub AllHeld : List (Option ℤ) → Type 0
AllHeld [] = Unit {0}
AllHeld (none ∷ xs) = AllHeld xs
AllHeld (some v ∷ xs) = (holds v ≡ true) × AllHeld xs

any_same : (z : ℤ) (xs : List (Option ℤ)) → any_present (differences z xs) ≡ any_present xs
unfolding differences any_present
any_same z [] = refl
any_same z (none ∷ xs) = any_same z xs
any_same z (some v ∷ xs) = refl

same_length : (z : ℤ) (xs : List (Option ℤ)) → length (differences z xs) ≡ length xs
unfolding differences
same_length z [] = refl
same_length z (none ∷ xs) = ap suc (same_length z xs)
same_length z (some v ∷ xs) = ap suc (same_length v xs)

-- no difference leaves i64: each is one that the element writes
pub narrow-fits : (i : ℕ) (ds : List (Option ℤ)) → wide_at i ds ≡ none → ListFits i64_e ds
unfolding wide_at
narrow-fits i [] e = tt
narrow-fits i (none ∷ ds) e = narrow-fits (suc i) ds e
narrow-fits i (some d ∷ ds) e = go (holds d) refl e (λ k. narrow-fits (suc i) ds k)
  where
    go : (t : Bool) → holds d ≡ t → cond t (wide_at (suc i) ds) (some i) ≡ none → (wide_at (suc i) ds ≡ none → ListFits i64_e ds)
        → (holds d ≡ true) × ListFits i64_e ds
    go true h k r = (h, r k)
    go false h k r = let z : ◌≡◌ {A = ℕ} 0 1 = cc in absurd (omega arith)

back_to : (z v : ℤ) → z +ℤ (v -ℤ z) ≡ v
back_to z v = +ℤ_comm z (v -ℤ z) ∙ -ℤ-+ℤ_cancel v z

-- readings whose values are the differences of a list add up to the list
up : (z : ℤ) (xs : List (Option ℤ)) (rs : List (Reading ℤ)) (e : Ending) → AllHeld xs → map value rs ≡ differences z xs
    → (map value (add_up z rs e).readings ≡ xs) × ((add_up z rs e).ending ≡ e)
unfolding add_up differences value added held_sum
up z [] [] e h k = (refl, refl)
up z [] (r ∷ rs) e h k = let y : ◌≡◌ {A = ℕ} 0 1 = cc in absurd (omega arith)
up z (none ∷ xs) [] e h k = let y : ◌≡◌ {A = ℕ} 0 1 = cc in absurd (omega arith)
up z (some v ∷ xs) [] e h k = let y : ◌≡◌ {A = ℕ} 0 1 = cc in absurd (omega arith)
up z (none ∷ xs) (absent ∷ rs) e h k =
    let ih = up z xs rs e h (cc) in
    (ap (λ (l : List (Option ℤ)). none ∷ l) ih.0, ih.1)
up z (none ∷ xs) (present d q ∷ rs) e h k = let y : ◌≡◌ {A = ℕ} 0 1 = cc in absurd (omega arith)
up z (some v ∷ xs) (absent ∷ rs) e h k = let y : ◌≡◌ {A = ℕ} 0 1 = cc in absurd (omega arith)
up z (some v ∷ xs) (present d q ∷ rs) e h k =
    let f : d ≡ v -ℤ z = cc in
    let g : z +ℤ d ≡ v = ap (λ (x : ℤ). z +ℤ x) f ∙ back_to z v in
    let ih = up v xs rs e h.1 (cc) in
    rw (g, h.0) (ap (λ (l : List (Option ℤ)). some v ∷ l) ih.0, ih.1)

pub delta-round-trip : (xs : List (Option ℤ)) → any_present xs ≡ true → AllHeld xs → wide_at 0 (differences (pos 0) xs) ≡ none → length xs ≤ limit
    → (map value (delta_trace (delta_bytes xs)).readings ≡ xs) × ((delta_trace (delta_bytes xs)).ending ≡ Ending.sound)
unfolding delta_trace delta_bytes
delta-round-trip xs e h w m =
    let ds = differences (pos 0) xs in
    let s = column_bytes i64_e ds in
    let r = round_trip i64_e i64-laws ds (any_same (pos 0) xs ∙ e) (narrow-fits 0 ds w) (omega (arith, same_length (pos 0) xs)) in
    let u = up (pos 0) xs (trace i64_e s).readings (trace i64_e s).ending h r.0 in
    (u.0, u.1 ∙ r.1)

pub delta-no-value : (xs : List (Option ℤ)) → any_present xs ≡ false → delta_bytes xs ≡ []
unfolding delta_bytes
delta-no-value xs e = no_value i64_e (differences (pos 0) xs) (any_same (pos 0) xs ∙ e)

pub delta-nothing : delta_trace [] ≡ record { readings = []; ending = Ending.sound }
unfolding delta_trace add_up
delta-nothing = rw (nothing-reads i64_e)

-- "n optional readings never need more than 11n bytes": whatever their differences, since no encoding of a number passes 10 bytes
pub delta-eleven : (xs : List (Option ℤ)) → length (delta_bytes xs) ≤ 11 * length xs
unfolding delta_bytes
delta-eleven xs = omega (arith, column-eleven i64_e i64-laws i64-ten (differences (pos 0) xs), same_length (pos 0) xs)

-- ---- a list that was read has differences that can be written

pub taken-off : (z d : ℤ) → z +ℤ d -ℤ z ≡ d
taken-off z d = ap (λ (x : ℤ). x -ℤ z) (+ℤ_comm z d) ∙ +ℤ-neg_ℤ_cancel d z

narrow : (i : ℕ) (z : ℤ) (rs : List (Reading ℤ)) (e : Ending) → Fits i64_e rs → wide_at i (differences z (map value (add_up z rs e).readings)) ≡ none
unfolding add_up differences value added held_sum wide_at
narrow i z [] e h = refl
narrow i z (absent ∷ rs) e h = narrow (suc i) z rs e h
narrow i z (present d q ∷ rs) e h = go (holds (z +ℤ d)) (narrow (suc i) (z +ℤ d) rs e h.1)
  where
    go : (t : Bool) → wide_at (suc i) (differences (z +ℤ d) (map value (add_up (z +ℤ d) rs e).readings)) ≡ none
        → wide_at i (differences z (map value (added q (cond t (some (z +ℤ d)) none) (λ y. add_up y rs e)).readings)) ≡ none
    go true k = rw (taken-off z d, h.0) k
    go false k = refl

pub delta-writable : (s : List ℕ) → ((i : ℕ) → get_or s i 0 < 256) → wide_at 0 (differences (pos 0) (map value (delta_trace s).readings)) ≡ none
unfolding delta_trace
delta-writable s B = narrow 0 (pos 0) (trace i64_e s).readings (trace i64_e s).ending (trace-fits i64_e i64-laws s B)
