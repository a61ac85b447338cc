-- What `Told` passes on fixes the boundary's answer and what it leaves behind: no second struct and no second buffer fits.
-- Assumes nothing.
use Prim.Native.Nat.{ℕ}
use mathlib.Core.Path.{◌≡◌, ap, ◌∙◌}
use mathlib.Core.Bool.{Bool}
use mathlib.Core.List.{List, map}
use lib.IntN.{ℤ}
use lib.ListN.{length}
use Rattle.leb128.specs.Answer.{Answer, within, left}
use Rattle.encoding.specs.Column.{Reading}
use Rattle.encoding.specs.Given.{sized, Encoded}
use Rattle.encoding.specs.Slots.{slot_of, flag_of, decoding, Decoded}
use Rattle.encoding.specs.Survivors.{surviving}
use Rattle.encoding.specs.Walk.{Trace, outcome}
use Rattle.boolean_decoder.specs.Decoded.{Decoded as DecodedFlags}
use Rattle.text.specs.Name.{start_of, length_of}
use Rattle.text_decoder.specs.Slots.{decoding_names, DecodedNames}
use Rattle.salvage.specs.Salvage.{Outcome, judged, reported, left_by, SavedOptional, SavedTurns, SavedNames}
use Rattle.pen_log.specs.Replay.{replayed, told, Replays}
use Rattle.capi.specs.Cases.{counted, salvaged_as}
use Rattle.capi.specs.Logs.{replayed_as, ToldReplay}
use Rattle.capi.specs.Told.{Told, ToldSalvage}
use Rattle.capi.specs.declared.Counted.{Counted}
use Rattle.capi.specs.declared.Replayed.{Replayed}
use Rattle.capi.specs.declared.Salvaged.{Salvaged}

-- a promise that holds of one answer alone
pub told-one : {P : Answer → Type 0} {r : Counted} (a : Answer) → ((o : Answer) → P o → o ≡ a) → Told P r → r ≡ counted a
told-one a only t = t.form ∙ ap counted (only t.told t.holds)

pub salvage-one : {P : Outcome → Type 0} {r : Salvaged} (a : Outcome) → ((o : Outcome) → P o → o ≡ a) → ToldSalvage P r → r ≡ salvaged_as a
salvage-one a only t = t.form ∙ ap salvaged_as (only t.told t.holds)

-- decoding a column of optional readings: the answer and both slices
module _ {R B : Type 0} {t : Trace R} {f : R → B} {g : R → ℕ} {v v' : List B} {p p' : List ℕ} {r : Counted} where
  pub decoded-answer : Told (Decoded t f g v v' p p') r → r ≡ counted (decoding t (length v) (length p))
  decoded-answer = told-one (decoding t (length v) (length p)) (λ o d. d.answer)

  pub decoded-values : Told (Decoded t f g v v' p p') r → v' ≡ left (decoding t (length v) (length p)) (map f t.readings) v
  decoded-values d = d.holds.values ∙ ap (λ (o : Answer). left o (map f t.readings) v) d.holds.answer

  pub decoded-flags : Told (Decoded t f g v v' p p') r → p' ≡ left (decoding t (length v) (length p)) (map g t.readings) p
  decoded-flags d = d.holds.flags ∙ ap (λ (o : Answer). left o (map g t.readings) p) d.holds.answer

-- decoding a boolean column
module _ {t : Trace ℕ} {v v' : List ℕ} {r : Counted} where
  pub booleans-answer : Told (DecodedFlags t v v') r → r ≡ counted (within 9 (length v) (outcome t))
  booleans-answer = told-one (within 9 (length v) (outcome t)) (λ o d. d.answer)

  pub booleans-values : Told (DecodedFlags t v v') r → v' ≡ left (within 9 (length v) (outcome t)) t.readings v
  booleans-values d = d.holds.values ∙ ap (λ (o : Answer). left o t.readings v) d.holds.answer

-- decoding a column of names: the answer and the three slices
module _ {t : Trace (Reading (List ℕ))} {a a' l l' p p' : List ℕ} {r : Counted} where
  pub names-answer : Told (DecodedNames t a a' l l' p p') r → r ≡ counted (decoding_names t (length a) (length l) (length p))
  names-answer = told-one (decoding_names t (length a) (length l) (length p)) (λ o d. d.answer)

  pub names-starts : Told (DecodedNames t a a' l l' p p') r
      → a' ≡ left (decoding_names t (length a) (length l) (length p)) (map start_of t.readings) a
  names-starts d = d.holds.starts ∙ ap (λ (o : Answer). left o (map start_of t.readings) a) d.holds.answer

  pub names-lens : Told (DecodedNames t a a' l l' p p') r
      → l' ≡ left (decoding_names t (length a) (length l) (length p)) (map length_of t.readings) l
  names-lens d = d.holds.lens ∙ ap (λ (o : Answer). left o (map length_of t.readings) l) d.holds.answer

  pub names-flags : Told (DecodedNames t a a' l l' p p') r
      → p' ≡ left (decoding_names t (length a) (length l) (length p)) (map flag_of t.readings) p
  names-flags d = d.holds.flags ∙ ap (λ (o : Answer). left o (map flag_of t.readings) p) d.holds.answer

-- encoding a list
module _ {bytes : List ℕ} {judged : Answer} {out out' : List ℕ} {r : Counted} where
  pub encoded-answer : Told (Encoded bytes judged out out') r → r ≡ counted (within 10 (length out) (sized bytes judged))
  encoded-answer = told-one (within 10 (length out) (sized bytes judged)) (λ o e. e.answer)

  pub encoded-output : Told (Encoded bytes judged out out') r → out' ≡ left (within 10 (length out) (sized bytes judged)) bytes out
  encoded-output e = e.holds.output ∙ ap (λ (o : Answer). left o bytes out) e.holds.answer

-- a salvage of optional readings: the answer, both slices and the output
abbrev optional_outcome : {B : Type 0} → Bool → Trace (Reading B) → List ℕ → List B → List ℕ → List ℕ → Outcome
optional_outcome served t bytes v p out = reported t (judged served (decoding (surviving t) (length v) (length p)) (length bytes) (length out))

module _ {B : Type 0} {served : Bool} {t : Trace (Reading B)} {nought : B} {bytes : List ℕ} {v v' : List B} {p p' out out' : List ℕ}
    {r : Salvaged} where
  pub saved-answer : ToldSalvage (SavedOptional served t nought bytes v v' p p' out out') r → r ≡ salvaged_as (optional_outcome served t bytes v p out)
  saved-answer = salvage-one (optional_outcome served t bytes v p out) (λ o d. d.answer)

  pub saved-values : ToldSalvage (SavedOptional served t nought bytes v v' p p' out out') r
      → v' ≡ left_by (optional_outcome served t bytes v p out) (map (slot_of nought) t.readings) v
  saved-values d = d.holds.values ∙ ap (λ (o : Outcome). left_by o (map (slot_of nought) t.readings) v) d.holds.answer

  pub saved-flags : ToldSalvage (SavedOptional served t nought bytes v v' p p' out out') r
      → p' ≡ left_by (optional_outcome served t bytes v p out) (map flag_of t.readings) p
  saved-flags d = d.holds.flags ∙ ap (λ (o : Outcome). left_by o (map flag_of t.readings) p) d.holds.answer

  pub saved-output : ToldSalvage (SavedOptional served t nought bytes v v' p p' out out') r
      → out' ≡ left_by (optional_outcome served t bytes v p out) bytes out
  saved-output d = d.holds.output ∙ ap (λ (o : Outcome). left_by o bytes out) d.holds.answer

-- of booleans
abbrev turns_outcome : Bool → Trace ℕ → List ℕ → List ℕ → List ℕ → Outcome
turns_outcome served t bytes v out = reported t (judged served (within 9 (length v) (outcome (surviving t))) (length bytes) (length out))

module _ {served : Bool} {t : Trace ℕ} {bytes v v' out out' : List ℕ} {r : Salvaged} where
  pub turns-answer : ToldSalvage (SavedTurns served t bytes v v' out out') r → r ≡ salvaged_as (turns_outcome served t bytes v out)
  turns-answer = salvage-one (turns_outcome served t bytes v out) (λ o d. d.answer)

  pub turns-values : ToldSalvage (SavedTurns served t bytes v v' out out') r → v' ≡ left_by (turns_outcome served t bytes v out) t.readings v
  turns-values d = d.holds.values ∙ ap (λ (o : Outcome). left_by o t.readings v) d.holds.answer

  pub turns-output : ToldSalvage (SavedTurns served t bytes v v' out out') r → out' ≡ left_by (turns_outcome served t bytes v out) bytes out
  turns-output d = d.holds.output ∙ ap (λ (o : Outcome). left_by o bytes out) d.holds.answer

-- of names
abbrev names_outcome : Bool → Trace (Reading (List ℕ)) → List ℕ → List ℕ → List ℕ → List ℕ → List ℕ → Outcome
names_outcome served t bytes a l p out =
    reported t (judged served (decoding_names (surviving t) (length a) (length l) (length p)) (length bytes) (length out))

module _ {served : Bool} {t : Trace (Reading (List ℕ))} {bytes a a' l l' p p' out out' : List ℕ} {r : Salvaged} where
  pub saved-names-answer : ToldSalvage (SavedNames served t bytes a a' l l' p p' out out') r
      → r ≡ salvaged_as (names_outcome served t bytes a l p out)
  saved-names-answer = salvage-one (names_outcome served t bytes a l p out) (λ o d. d.answer)

  pub saved-names-starts : ToldSalvage (SavedNames served t bytes a a' l l' p p' out out') r
      → a' ≡ left_by (names_outcome served t bytes a l p out) (map start_of t.readings) a
  saved-names-starts d = d.holds.starts ∙ ap (λ (o : Outcome). left_by o (map start_of t.readings) a) d.holds.answer

  pub saved-names-lens : ToldSalvage (SavedNames served t bytes a a' l l' p p' out out') r
      → l' ≡ left_by (names_outcome served t bytes a l p out) (map length_of t.readings) l
  saved-names-lens d = d.holds.lens ∙ ap (λ (o : Outcome). left_by o (map length_of t.readings) l) d.holds.answer

  pub saved-names-flags : ToldSalvage (SavedNames served t bytes a a' l l' p p' out out') r
      → p' ≡ left_by (names_outcome served t bytes a l p out) (map flag_of t.readings) p
  saved-names-flags d = d.holds.flags ∙ ap (λ (o : Outcome). left_by o (map flag_of t.readings) p) d.holds.answer

  pub saved-names-output : ToldSalvage (SavedNames served t bytes a a' l l' p p' out out') r
      → out' ≡ left_by (names_outcome served t bytes a l p out) bytes out
  saved-names-output d = d.holds.output ∙ ap (λ (o : Outcome). left_by o bytes out) d.holds.answer

-- a replay: the answer; what it leaves behind is fixed by the promise itself
pub replayed-answer : {column log : List ℕ} {v v' : List ℤ} {p p' out out' : List ℕ} {r : Replayed} → ToldReplay (Replays column log v v' p p' out out') r
    → r ≡ replayed_as (told (replayed column log (length v) (length p) (length out)))
replayed-answer t = t.form ∙ ap replayed_as t.holds.answer
