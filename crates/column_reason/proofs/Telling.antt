-- What a survey says of a column's ending, and the reason told of it: of a sound column none; of a fault the one whose run was found, with its count and facts. Assumes
-- nothing.
use Prim.Native.Nat.{ℕ}
use mathlib.Core.Path.{◌≡◌, refl, sym, ◌∙◌, ap}
use mathlib.Core.List.{List}
use mathlib.Core.Option.{Option, some}
use native.Mathlib.Omega.{arith}
use lib.ListN.{length}
use Rattle.std.specs.Prelude.{Some, None}
use Rattle.refusal.specs.Number as refusal
use Rattle.refusal.specs.declared.Refusal.{Refusal}
use Rattle.refusal.proofs.Numbered.{some as some_number}
use Rattle.leb128.specs.Read.{u64_at, i64_at}
use Rattle.leb128.proofs.Refusals.{u64-fault}
use Rattle.encoding.specs.Column.{Spot, spot, trace}
use Rattle.encoding.specs.Survivors.{number_of, place_of, survey_of, surveyed, ending_of, seen, Surveyed}
use Rattle.encoding.specs.Walk.{Ending, sound, fault, Trace}
use Rattle.encoding.specs.declared.Survey.{Survey}
use Rattle.encoding.proofs.Faults.{Numbered, trace-numbered}
use Rattle.encoding.proofs.Surveying.{survey-readings}
use Rattle.rle_decoder.specs.Word.{u64_e}
use Rattle.delta_decoder.specs.Difference.{i64_e}
use Rattle.delta_decoder.specs.Sums.{delta_trace}
use Rattle.delta_decoder.proofs.Faults.{delta-numbered}
use Rattle.boolean_decoder.specs.Turns.{Turn, turn, turn_at, bool_trace}
use Rattle.boolean_decoder.proofs.Faults.{boolean-numbered}
use Rattle.text.specs.Text.{text_e}
use Rattle.text.proofs.Faults.{text-fault}
use Rattle.reason.specs.Columns.{Told, because, faultless, answered}
use Rattle.reason.specs.Reason.{
  Count,
  Facts,
  Reason,
  signed_count,
  unsigned_count,
  holding,
  told,
  reason_by,
  spots_of,
  plain_facts,
  name_facts,
  sum_facts,
  turn_facts,
  integer_reason,
  delta_reason,
  boolean_reason,
  text_reason,
}
use Rattle.reason.specs.Runs.{Walked, runs, Fallen}
use Rattle.column_reason.specs.Places.{stands_at, turns_at, why_of}
use Rattle.column_reason.specs.declared.places.RunPlace.{RunPlace}

-- ---- the reason by the ending

by-fault : (x : Ending) (k : ℕ → ℕ → Option Reason) (number place : ℕ) → x ≡ fault number place → reason_by x k ≡ k number place
by-fault x k number place e = ap (λ (x : Ending). reason_by x k) e

-- ---- the ending that was surveyed

module _ {R : Type 0} (t : Trace R) (found : Survey) (e : seen found ≡ survey_of t) where
  ends-sound : Numbered t.ending → found.fault ≡ None → t.ending ≡ sound
  ends-sound h z = go t.ending h (sym (ap (λ (r : Surveyed). r.number) e) ∙ ap (λ o. number_of (ending_of o)) z)
    where
      go : (x : Ending) → Numbered x → number_of x ≡ 0 → x ≡ sound
      go sound h z = refl
      go (fault number place) h z = absurd (omega arith)

  ends-fault : (f : Refusal) → found.fault ≡ Some f → t.ending ≡ fault (refusal.number_of f.0) f.1
  ends-fault f z =
      let k : surveyed found.readings (ending_of (Some f)) ≡ survey_of t = sym (ap (λ o. surveyed found.readings (ending_of o)) z) ∙ e in
      go t.ending (ap (λ (r : Surveyed). r.number) k) (ap (λ (r : Surveyed). r.place) k)
    where
      go : (x : Ending) → refusal.number_of f.0 ≡ number_of x → f.1 ≡ place_of x → x ≡ fault (refusal.number_of f.0) f.1
      go sound a b = absurd (some_number f.0 a)
      go (fault number place) a b = sym (rw (a, b) refl)

-- ---- the reason

module _ {A R S : Type 0} (t : Trace A) (found : Survey) (e : seen found ≡ survey_of t) (had at : S → ℕ) (counted : S → Count)
    (facts : ℕ → ℕ → S → Facts) (ws : List (Walked R S)) where
  -- of the column's ending, with the run that has the reading behind all that were read
  reason : Option Reason
  reason = reason_by t.ending (λ number place. told number place (length t.readings) at counted (facts number place) (holding had (length t.readings) 0 ws))

  none_told : Numbered t.ending → found.fault ≡ None → faultless ≡ answered reason
  unfolding reason
  none_told numbered z = rw (ends-sound t found e numbered z) refl

  -- at p the run y was found, and the count and the facts are those of it
  module _ (f : Refusal) (is : found.fault ≡ Some f) (p : RunPlace) (y : Fallen R S) (c : Count) (x : Facts) (run : p.run ≡ y.index) (begins : p.at ≡ at y.at.state)
      (h : holding had found.readings 0 ws ≡ some y) (k : c ≡ counted y.at.state) (l : x ≡ facts (refusal.number_of f.0) f.1 y.at.state) where
    tells : because (why_of (refusal.number_of f.0) f.1 found.readings p c x) ≡ answered reason
    unfolding reason
    tells =
        let number = refusal.number_of f.0 in
        let said : ℕ → Option (Fallen R S) → Told = λ i o. answered (told number f.1 i at counted (facts number f.1) o) in
        rw (run, begins, k, l) (sym (ap answered (by-fault t.ending _ number f.1 (ends-fault t found e f is))
        ∙ ap (λ (i : ℕ). said i (holding had i 0 ws)) (sym (survey-readings t (seen found) e)) ∙ ap (said found.readings) h))

-- ---- the kinds

module _ (s : List ℕ) (found : Survey) where
  pub integer-sound : seen found ≡ survey_of (trace u64_e s) → found.fault ≡ None → faultless ≡ answered (integer_reason s)
  unfolding integer_reason reason
  integer-sound e z =
      none_told (trace u64_e s) found e (λ (st : Spot). st.had) (λ (st : Spot). st.at) (λ (st : Spot). signed_count (i64_at s st.at)) (plain_facts s) (spots_of u64_e s)
      (trace-numbered u64_e s (u64-fault s)) z

  pub integer-tells : (f : Refusal) (p : RunPlace) (c : Count) (x : Facts) → seen found ≡ survey_of (trace u64_e s) → found.fault ≡ Some f
      → holding (λ (st : Spot). st.had) found.readings 0 (spots_of u64_e s) ≡ some (stands_at u64_e s p)
      → c ≡ signed_count (i64_at s p.at) → x ≡ plain_facts s (refusal.number_of f.0) f.1 (spot p.at p.had)
      → because (why_of (refusal.number_of f.0) f.1 found.readings p c x) ≡ answered (integer_reason s)
  unfolding integer_reason reason
  integer-tells f p c x e z h k l =
      tells (trace u64_e s) found e (λ (st : Spot). st.had) (λ (st : Spot). st.at) (λ (st : Spot). signed_count (i64_at s st.at)) (plain_facts s) (spots_of u64_e s)
      f z p (stands_at u64_e s p) c x refl refl h k l

  pub delta-sound : seen found ≡ survey_of (delta_trace s) → found.fault ≡ None → faultless ≡ answered (delta_reason s)
  unfolding delta_reason reason
  delta-sound e z =
      none_told (delta_trace s) found e (λ (st : Spot). st.had) (λ (st : Spot). st.at) (λ (st : Spot). signed_count (i64_at s st.at)) (sum_facts s) (spots_of i64_e s)
      (delta-numbered s) z

  pub delta-tells : (f : Refusal) (p : RunPlace) (c : Count) (x : Facts) → seen found ≡ survey_of (delta_trace s) → found.fault ≡ Some f
      → holding (λ (st : Spot). st.had) found.readings 0 (spots_of i64_e s) ≡ some (stands_at i64_e s p)
      → c ≡ signed_count (i64_at s p.at) → x ≡ sum_facts s (refusal.number_of f.0) f.1 (spot p.at p.had)
      → because (why_of (refusal.number_of f.0) f.1 found.readings p c x) ≡ answered (delta_reason s)
  unfolding delta_reason reason
  delta-tells f p c x e z h k l =
      tells (delta_trace s) found e (λ (st : Spot). st.had) (λ (st : Spot). st.at) (λ (st : Spot). signed_count (i64_at s st.at)) (sum_facts s) (spots_of i64_e s)
      f z p (stands_at i64_e s p) c x refl refl h k l

  pub text-sound : seen found ≡ survey_of (trace text_e s) → found.fault ≡ None → faultless ≡ answered (text_reason s)
  unfolding text_reason reason
  text-sound e z =
      none_told (trace text_e s) found e (λ (st : Spot). st.had) (λ (st : Spot). st.at) (λ (st : Spot). signed_count (i64_at s st.at)) (name_facts s) (spots_of text_e s)
      (trace-numbered text_e s (text-fault s)) z

  pub text-tells : (f : Refusal) (p : RunPlace) (c : Count) (x : Facts) → seen found ≡ survey_of (trace text_e s) → found.fault ≡ Some f
      → holding (λ (st : Spot). st.had) found.readings 0 (spots_of text_e s) ≡ some (stands_at text_e s p)
      → c ≡ signed_count (i64_at s p.at) → x ≡ name_facts s (refusal.number_of f.0) f.1 (spot p.at p.had)
      → because (why_of (refusal.number_of f.0) f.1 found.readings p c x) ≡ answered (text_reason s)
  unfolding text_reason reason
  text-tells f p c x e z h k l =
      tells (trace text_e s) found e (λ (st : Spot). st.had) (λ (st : Spot). st.at) (λ (st : Spot). signed_count (i64_at s st.at)) (name_facts s) (spots_of text_e s)
      f z p (stands_at text_e s p) c x refl refl h k l

  pub boolean-sound : seen found ≡ survey_of (bool_trace s) → found.fault ≡ None → faultless ≡ answered (boolean_reason s)
  unfolding boolean_reason reason
  boolean-sound e z =
      none_told (bool_trace s) found e (λ (st : Turn). st.had) (λ (st : Turn). st.at) (λ (st : Turn). unsigned_count (u64_at s st.at)) (turn_facts s)
      (runs (turn_at s) (length s) (turn 0 0 0)) (boolean-numbered s) z

  -- whatever byte the count counts
  pub boolean-tells : (flag : ℕ) (f : Refusal) (p : RunPlace) (c : Count) (x : Facts) → seen found ≡ survey_of (bool_trace s) → found.fault ≡ Some f
      → holding (λ (st : Turn). st.had) found.readings 0 (runs (turn_at s) (length s) (turn 0 0 0)) ≡ some (turns_at s p flag)
      → c ≡ unsigned_count (u64_at s p.at) → x ≡ turn_facts s (refusal.number_of f.0) f.1 (turn p.at p.had 0)
      → because (why_of (refusal.number_of f.0) f.1 found.readings p c x) ≡ answered (boolean_reason s)
  unfolding boolean_reason reason
  boolean-tells flag f p c x e z h k l =
      tells (bool_trace s) found e (λ (st : Turn). st.had) (λ (st : Turn). st.at) (λ (st : Turn). unsigned_count (u64_at s st.at)) (turn_facts s)
      (runs (turn_at s) (length s) (turn 0 0 0)) f z p (turns_at s p flag) c x refl refl h k l
