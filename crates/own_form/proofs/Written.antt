-- WHAT OUR WRITER WROTE IS IN OUR FORM, for every kind of column and every list that can be written, one of absent readings alone too: that is written as
-- nothing. But the bytes of such a list that another writer wrote are not. Assumes nothing.
use Prim.Native.Nat.{ℕ, ◌≤◌}
use mathlib.Core.Path.{◌≡◌, refl, sym, ◌∙◌, ap}
use mathlib.Core.List.{List, [], map}
use mathlib.Core.Option.{Option, none}
use mathlib.Core.Bool.{Bool, true, false}
use lib.IntN.{ℤ, pos}
use lib.ListN.{length}
use Rattle.encoding.specs.Column.{Reading, value, trace}
use Rattle.encoding.specs.Element.{Element}
use Rattle.encoding.specs.Limit.{limit}
use Rattle.encoding.specs.Walk.{Trace, sound}
use Rattle.encoding.specs.Writer.{any_present, column_bytes}
use Rattle.encoding.proofs.Back.{ListFits, round_trip, no_value, nothing-reads}
use Rattle.encoding.proofs.Elements.{ElementLaws}
use Rattle.rle_decoder.specs.Word.{u64_e}
use Rattle.rle_decoder.proofs.WordLaws.{u64-laws}
use Rattle.delta_decoder.specs.Sums.{delta_trace}
use Rattle.delta_encoder.specs.Differences.{differences, delta_bytes, wide_at}
use Rattle.delta_encoder.proofs.Back.{AllHeld, delta-round-trip, delta-no-value, delta-nothing}
use Rattle.boolean_decoder.specs.Turns.{bool_trace}
use Rattle.boolean_encoder.specs.Ahead.{Flags}
use Rattle.boolean_encoder.specs.Writer.{bool_bytes}
use Rattle.boolean_encoder.proofs.Back as boolean
use Rattle.text.specs.Text.{text_e}
use Rattle.text.proofs.TextLaws.{text-laws}
use Rattle.own_form.specs.Form.{ours, form_in, form_of}
use Rattle.own_form.proofs.Own.{own-written}

-- ---- optional readings

module _ {A : Type 0} (read : List ℕ → Trace (Reading A)) (write : List (Option A) → List ℕ) (xs : List (Option A))
    (trip : any_present xs ≡ true → (map value (read (write xs)).readings ≡ xs) × ((read (write xs)).ending ≡ sound))
    (bare : any_present xs ≡ false → write xs ≡ []) (nothing : read [] ≡ record { readings = []; ending = sound }) (empty : write [] ≡ []) where
  own-if : (t : Bool) → any_present xs ≡ t → form_in read (λ rs. write (map value rs)) (write xs) ≡ ours
  own-if true e = let r = trip e in own-written read (λ rs. write (map value rs)) (write xs) r.1 (ap write r.0)
  own-if false e =
      let w = bare e in
      let b : read (write xs) ≡ record { readings = []; ending = sound } = ap read w ∙ nothing in
      own-written read (λ rs. write (map value rs)) (write xs) (ap (λ (t : Trace (Reading A)). t.ending) b)
      (ap (λ (t : Trace (Reading A)). write (map value t.readings)) b ∙ empty ∙ sym w)

module _ {A : Type 0} (E : Element A) (L : ElementLaws E) where
  own-list : (xs : List (Option A)) → ListFits E xs → length xs ≤ limit → form_in (trace E) (λ rs. column_bytes E (map value rs)) (column_bytes E xs) ≡ ours
  unfolding any_present
  own-list xs f m = own-if (trace E) (column_bytes E) xs (λ e. round_trip E L xs e f m) (no_value E xs) (nothing-reads E) (no_value E [] refl) (any_present xs) refl

-- ---- the kinds, by their types

pub own-actors : (xs : List (Option ℕ)) → ListFits u64_e xs → length xs ≤ limit → form_of 1 (column_bytes u64_e xs) ≡ ours
unfolding form_of
own-actors xs f m = own-list u64_e u64-laws xs f m

pub own-integers : (xs : List (Option ℕ)) → ListFits u64_e xs → length xs ≤ limit → form_of 2 (column_bytes u64_e xs) ≡ ours
unfolding form_of
own-integers xs f m = own-list u64_e u64-laws xs f m

pub own-deltas : (xs : List (Option ℤ)) → AllHeld xs → wide_at 0 (differences (pos 0) xs) ≡ none → length xs ≤ limit → form_of 3 (delta_bytes xs) ≡ ours
unfolding form_of any_present
own-deltas xs h w m =
    own-if delta_trace delta_bytes xs (λ e. delta-round-trip xs e h w m) (delta-no-value xs) delta-nothing (delta-no-value [] refl) (any_present xs) refl

pub own-booleans : (xs : List ℕ) → Flags xs → length xs ≤ limit → form_of 4 (bool_bytes xs) ≡ ours
unfolding form_of
own-booleans xs h m = let r = boolean.round_trip xs h m in own-written bool_trace bool_bytes (bool_bytes xs) r.1 (ap bool_bytes r.0)

pub own-names : (xs : List (Option (List ℕ))) → ListFits text_e xs → length xs ≤ limit → form_of 5 (column_bytes text_e xs) ≡ ours
unfolding form_of
own-names xs f m = own-list text_e text-laws xs f m
