-- THE FRESH COLUMN is sound and reads back as what was kept, salvaging it again changes nothing, and it is at most 11 times as long as what was salvaged; for
-- every kind, whatever bytes were salvaged. Assumes nothing.
use Prim.Native.Nat.{ℕ, ◌*◌, ◌≤◌}
use mathlib.Core.Logic.{inl, inr}
use mathlib.Core.Path.{◌≡◌, refl, sym, ◌∙◌, ap}
use mathlib.Core.List.{List, [], ◌∷◌, map}
use mathlib.Core.Option.{Option}
use mathlib.Core.Bool.{Bool, true, false}
use lib.IntN.{ℤ, pos}
use lib.ListN.{length, take, length-map}
use lib.Seq.{take_all}
use native.Mathlib.Omega.{arith}
use Rattle.encoding.specs.Column.{Reading, absent, present, value, trace, values}
use Rattle.encoding.specs.Element.{Element}
use Rattle.encoding.specs.Walk.{Trace, sound}
use Rattle.encoding.specs.Writer.{any_present, column_bytes}
use Rattle.encoding.proofs.Back.{round_trip, no_value, nothing-reads}
use Rattle.encoding.proofs.Elements.{ElementLaws}
use Rattle.encoding.proofs.Limits.{trace-limit}
use Rattle.encoding.proofs.Readable.{Fits, readable}
use Rattle.rle_decoder.specs.Word.{u64_e}
use Rattle.rle_decoder.proofs.WordLaws.{u64-laws}
use Rattle.delta_decoder.specs.Difference.{i64_e}
use Rattle.delta_decoder.specs.Sums.{add_up, delta_trace}
use Rattle.delta_decoder.proofs.DifferenceLaws.{i64-laws}
use Rattle.delta_decoder.proofs.Limits.{delta-limit, delta-held}
use Rattle.delta_encoder.specs.Differences.{delta_bytes}
use Rattle.delta_encoder.proofs.Back.{AllHeld, delta-round-trip, delta-no-value, delta-nothing, delta-writable}
use Rattle.boolean_decoder.specs.Turns.{bool_trace}
use Rattle.boolean_decoder.proofs.Limits.{bool-limit}
use Rattle.boolean_encoder.specs.Writer.{bool_bytes}
use Rattle.boolean_encoder.proofs.Back as boolean
use Rattle.boolean_encoder.proofs.Writing.{read_flags}
use Rattle.text.specs.Text.{text_e}
use Rattle.text.proofs.TextLaws.{text-laws}
use Rattle.salvage.specs.Fresh.{Fresh}
use Rattle.salvage.specs.Kept.{Bytes}
use Rattle.salvage.specs.Way.{Way, integers, deltas, booleans, names, fresh_of}
use Rattle.salvage.proofs.Lengths.{eleven-times}
use Rattle.salvage.proofs.Summed.{sums-back}
use Rattle.salvage.proofs.TurnLengths.{eleven-turns}

-- ---- optional readings: a value is present, or none is

module _ {A : Type 0} (W : Way (Option A)) (s : List ℕ)
    (trip : W.present (W.reads s).readings ≡ true
    → ((W.reads (fresh_of W s)).readings ≡ (W.reads s).readings) × ((W.reads (fresh_of W s)).ending ≡ sound))
    (bare : W.present (W.reads s).readings ≡ false → fresh_of W s ≡ []) (nothing : W.reads [] ≡ record { readings = []; ending = sound })
    (empty : W.writes [] ≡ []) (most : length (fresh_of W s) ≤ 11 * length s) where
  fresh-if : (t : Bool) → W.present (W.reads s).readings ≡ t → Fresh W s
  fresh-if true e =
      let r = trip e in
      record { sound = r.1; back = inl r.0; again = ap W.writes r.0; eleven = most }
  fresh-if false e =
      let w = bare e in
      let b : W.reads (fresh_of W s) ≡ record { readings = []; ending = sound } = ap W.reads w ∙ nothing in
      let l : (W.reads (fresh_of W s)).readings ≡ [] = ap (λ (t : Trace (Option A)). t.readings) b in
      record {
        sound = ap (λ (t : Trace (Option A)). t.ending) b;
        back = inr (record { absent = e; nothing = w; empty = ap (λ (t : Trace (Option A)). t.readings) nothing });
        again = ap W.writes l ∙ empty ∙ sym w;
        eleven = most;
      }

-- of a run-length column, over any element
abbrev way : {A : Type 0} → Element A → Way (Option A)
way E = record { reads = λ s. values (trace E s); writes = column_bytes E; present = any_present }

module _ {A : Type 0} (E : Element A) (L : ElementLaws E) (s : List ℕ) (B : Bytes s) where
  all-eleven : length (fresh_of (way E) s) ≤ 11 * length s
  all-eleven =
      let xs = map value (trace E s).readings in
      let e : take (length xs) xs ≡ xs = take_all (length xs) xs (omega arith) in
      rw e at (eleven-times E L s B (length xs))

  fresh : Fresh (way E) s
  unfolding any_present
  fresh =
      let xs = map value (trace E s).readings in
      fresh-if (way E) s
      (λ e. round_trip E L xs e (readable E L s B) (omega (arith, trace-limit E L s, length-map (trace E s).readings value)))
      (no_value E xs) (ap values (nothing-reads E)) (no_value E [] refl) all-eleven (any_present xs) refl

pub fresh-integers : (s : List ℕ) → Bytes s → Fresh integers s
fresh-integers = fresh u64_e u64-laws

pub fresh-names : (s : List ℕ) → Bytes s → Fresh names s
fresh-names = fresh text_e text-laws

-- ---- sums

all_held : (rs : List (Reading ℤ)) → Fits i64_e rs → AllHeld (map value rs)
unfolding value
all_held [] h = tt
all_held (absent ∷ rs) h = all_held rs h
all_held (present a place ∷ rs) h = (h.0, all_held rs h.1)

sums-eleven : (s : List ℕ) → Bytes s → length (fresh_of deltas s) ≤ 11 * length s
unfolding delta_bytes delta_trace
sums-eleven s B =
    let e = sums-back (pos 0) (trace i64_e s).readings (trace i64_e s).ending in
    rw e (eleven-times i64_e i64-laws s B (length (add_up (pos 0) (trace i64_e s).readings (trace i64_e s).ending).readings))

pub fresh-deltas : (s : List ℕ) → Bytes s → Fresh deltas s
unfolding any_present
fresh-deltas s B =
    let rs = (delta_trace s).readings in
    let xs = map value rs in
    fresh-if deltas s
    (λ e. delta-round-trip xs e (all_held rs (delta-held s)) (delta-writable s B) (omega (arith, delta-limit s, length-map rs value)))
    (delta-no-value xs) (ap values delta-nothing) (delta-no-value [] refl) (sums-eleven s B) (any_present xs) refl

-- ---- booleans: every one is present

pub fresh-booleans : (s : List ℕ) → Fresh booleans s
fresh-booleans s =
    let r = boolean.round_trip (bool_trace s).readings (read_flags s) (bool-limit s) in
    record { sound = r.1; back = inl r.0; again = ap bool_bytes r.0; eleven = eleven-turns s }
