-- One law for each way out of a salvage, over any kind of column: 17, 8, 9, 10, and what was saved. Assumes nothing.
use Prim.Native.Nat.{ℕ, ◌≤◌, ◌<◌}
use mathlib.Core.Path.{◌≡◌, refl, sym, ◌∙◌, ap}
use mathlib.Core.List.{List, ◌++◌, map}
use mathlib.Core.Bool.{Bool, true, false}
use native.Mathlib.Omega.{arith}
use lib.ListN.{length, drop}
use borrow.Author.Tests.{eq-eqb, ne_eqb, le-leb, lt-leb}
use Rattle.leb128.specs.Answer.{Answer, done, refused, within}
use Rattle.encoding.specs.Column.{Reading}
use Rattle.encoding.specs.Slots.{slot_of, flag_of, decoding}
use Rattle.encoding.specs.Survivors.{survey_of, surviving, Surveyed}
use Rattle.encoding.specs.Walk.{Trace, outcome, outcome_of}
use Rattle.text.specs.Name.{start_of, length_of}
use Rattle.text_decoder.specs.Slots.{decoding_names}
use Rattle.salvage.specs.Salvage.{saved, refusal, judged, reported, left_by, SavedOptional, SavedTurns, SavedNames}

-- ---- the call's own refusals, and what is reported

module _ {R : Type 0} (t : Trace R) (served : Bool) (slots : Answer) (size room : ℕ) where
  own-17 : served ≡ false → reported t (judged served slots size room) ≡ refusal 17 0
  unfolding reported judged
  own-17 h = rw h refl

  own-slots : (number place : ℕ) → served ≡ true → slots ≡ refused number place → reported t (judged served slots size room) ≡ refusal number place
  unfolding reported judged
  own-slots number place h e = rw h (rw e refl)

  own-10 : (n : ℕ) → served ≡ true → slots ≡ done n → room < size → reported t (judged served slots size room) ≡ refusal 10 0
  unfolding reported judged within
  own-10 n h e l = rw h (rw e (rw (lt-leb size room l) refl))

  own-done : (n : ℕ) → served ≡ true → slots ≡ done n → size ≤ room
      → reported t (judged served slots size room) ≡ saved (survey_of t).readings size (survey_of t).number (survey_of t).place
  unfolding reported judged within
  own-done n h e l = rw h (rw e (rw (le-leb size room l) refl))

-- ---- what the slots say

pub kept-all : {R : Type 0} (t : Trace R) → outcome (surviving t) ≡ done (length t.readings)
unfolding outcome outcome_of
kept-all t = refl

module _ {R : Type 0} (t : Trace R) (values flags : ℕ) where
  slots-8 : (values ≡ flags → ⊥) → decoding (surviving t) values flags ≡ refused 8 0
  unfolding decoding
  slots-8 h = rw (ne_eqb values flags h) refl

  slots-9 : values ≡ flags → values < length t.readings → decoding (surviving t) values flags ≡ refused 9 0
  unfolding decoding within
  slots-9 h l = rw (eq-eqb values flags h) (rw (kept-all t) (rw (lt-leb (length t.readings) values l) refl))

  pub slots-done : values ≡ flags → length t.readings ≤ values → decoding (surviving t) values flags ≡ done (length t.readings)
  unfolding decoding within
  slots-done h l = rw (eq-eqb values flags h) (rw (kept-all t) (rw (le-leb (length t.readings) values l) refl))

uneven-names : {R : Type 0} (t : Trace R) (starts lens flags : ℕ) → (starts ≡ lens → ⊥) → decoding_names t starts lens flags ≡ refused 8 0
unfolding decoding_names
uneven-names t starts lens flags h = rw (ne_eqb starts lens h) refl

-- ---- optional readings

module _ {B : Type 0} {served : Bool} (t : Trace (Reading B)) (z : B) (bytes : List ℕ) (v : List B) (p out : List ℕ) where
  left-as-found : (number place : ℕ)
      → refusal number place ≡ reported t (judged served (decoding (surviving t) (length v) (length p)) (length bytes) (length out))
      → SavedOptional served t z bytes v v p p out out (refusal number place)
  unfolding left_by
  left-as-found number place e = record { answer = e; values = refl; flags = refl; output = refl }

  pub saved-17 : served ≡ false → SavedOptional served t z bytes v v p p out out (refusal 17 0)
  saved-17 h = left-as-found 17 0 (sym (own-17 t served _ _ _ h))

  pub saved-8 : served ≡ true → (length v ≡ length p → ⊥) → SavedOptional served t z bytes v v p p out out (refusal 8 0)
  saved-8 h u = left-as-found 8 0 (sym (own-slots t served _ _ _ 8 0 h (slots-8 t _ _ u)))

  module _ (h : served ≡ true) (u : length v ≡ length p) where
    pub saved-9 : (r : Surveyed) → r ≡ survey_of t → length v < r.readings → SavedOptional served t z bytes v v p p out out (refusal 9 0)
    saved-9 r e l =
        let k : r.readings ≡ length t.readings = ap (λ (r : Surveyed). r.readings) e in
        left-as-found 9 0 (sym (own-slots t served _ _ _ 9 0 h (slots-9 t _ _ u (omega arith))))

    module _ (r : Surveyed) (e : r ≡ survey_of t) (l : r.readings ≤ length v) where
      enough : decoding (surviving t) (length v) (length p) ≡ done (length t.readings)
      enough = let k : r.readings ≡ length t.readings = ap (λ (r : Surveyed). r.readings) e in slots-done t _ _ u (omega arith)

      pub saved-10 : length out < length bytes → SavedOptional served t z bytes v v p p out out (refusal 10 0)
      saved-10 k = left-as-found 10 0 (sym (own-10 t served _ _ _ _ h enough k))

      pub saved-done : (size : ℕ) (v' : List B) (p' out' : List ℕ) → size ≡ length bytes → size ≤ length out
          → v' ≡ map (slot_of z) t.readings ++ drop (length (map (slot_of z) t.readings)) v
          → p' ≡ map flag_of t.readings ++ drop (length (map flag_of t.readings)) p
          → out' ≡ bytes ++ drop (length bytes) out
          → SavedOptional served t z bytes v v' p p' out out' (saved r.readings size r.number r.place)
      unfolding left_by
      saved-done size v' p' out' s f a b c =
          record {
            answer = ap (λ (r : Surveyed). saved r.readings size r.number r.place) e
                ∙ ap (λ (n : ℕ). saved (survey_of t).readings n (survey_of t).number (survey_of t).place) s
                ∙ sym (own-done t served _ _ _ _ h enough (omega arith));
            values = a;
            flags = b;
            output = c;
          }

-- ---- booleans

module _ {served : Bool} (t : Trace ℕ) (bytes v out : List ℕ) where
  turns-as-found : (number place : ℕ)
      → refusal number place ≡ reported t (judged served (within 9 (length v) (outcome (surviving t))) (length bytes) (length out))
      → SavedTurns served t bytes v v out out (refusal number place)
  unfolding left_by
  turns-as-found number place e = record { answer = e; values = refl; output = refl }

  pub turns-17 : served ≡ false → SavedTurns served t bytes v v out out (refusal 17 0)
  turns-17 h = turns-as-found 17 0 (sym (own-17 t served _ _ _ h))

  module _ (h : served ≡ true) (r : Surveyed) (e : r ≡ survey_of t) where
    many : r.readings ≡ length t.readings
    many = ap (λ (r : Surveyed). r.readings) e

    pub turns-9 : length v < r.readings → SavedTurns served t bytes v v out out (refusal 9 0)
    unfolding within
    turns-9 l =
        let k = many in
        let s : within 9 (length v) (outcome (surviving t)) ≡ refused 9 0 = rw (kept-all t) (rw (lt-leb (length t.readings) (length v) (omega arith)) refl) in
        turns-as-found 9 0 (sym (own-slots t served _ _ _ 9 0 h s))

    module _ (l : r.readings ≤ length v) where
      turns-enough : within 9 (length v) (outcome (surviving t)) ≡ done (length t.readings)
      unfolding within
      turns-enough = let k = many in rw (kept-all t) (rw (le-leb (length t.readings) (length v) (omega arith)) refl)

      pub turns-10 : length out < length bytes → SavedTurns served t bytes v v out out (refusal 10 0)
      turns-10 k = turns-as-found 10 0 (sym (own-10 t served _ _ _ _ h turns-enough k))

      pub turns-done : (size : ℕ) (v' out' : List ℕ) → size ≡ length bytes → size ≤ length out
          → v' ≡ t.readings ++ drop (length t.readings) v → out' ≡ bytes ++ drop (length bytes) out
          → SavedTurns served t bytes v v' out out' (saved r.readings size r.number r.place)
      unfolding left_by
      turns-done size v' out' s f a c =
          record {
            answer = ap (λ (r : Surveyed). saved r.readings size r.number r.place) e
                ∙ ap (λ (n : ℕ). saved (survey_of t).readings n (survey_of t).number (survey_of t).place) s
                ∙ sym (own-done t served _ _ _ _ h turns-enough (omega arith));
            values = a;
            output = c;
          }

-- ---- names

module _ {served : Bool} (t : Trace (Reading (List ℕ))) (bytes a l p out : List ℕ) where
  names-as-found : (number place : ℕ)
      → refusal number place ≡ reported t (judged served (decoding_names (surviving t) (length a) (length l) (length p)) (length bytes) (length out))
      → SavedNames served t bytes a a l l p p out out (refusal number place)
  unfolding left_by
  names-as-found number place e = record { answer = e; starts = refl; lens = refl; flags = refl; output = refl }

  pub names-17 : served ≡ false → SavedNames served t bytes a a l l p p out out (refusal 17 0)
  names-17 h = names-as-found 17 0 (sym (own-17 t served _ _ _ h))

  pub names-8 : served ≡ true → (length a ≡ length l → ⊥) → SavedNames served t bytes a a l l p p out out (refusal 8 0)
  names-8 h u = names-as-found 8 0 (sym (own-slots t served _ _ _ 8 0 h (uneven-names (surviving t) (length a) (length l) (length p) u)))

  module _ (h : served ≡ true) (w : length a ≡ length l) where
    names-slots : {o : Answer} → decoding (surviving t) (length l) (length p) ≡ o → decoding_names (surviving t) (length a) (length l) (length p) ≡ o
    unfolding decoding_names
    names-slots e = rw (eq-eqb (length a) (length l) w) e

    pub names-8-flags : (length l ≡ length p → ⊥) → SavedNames served t bytes a a l l p p out out (refusal 8 0)
    names-8-flags u = names-as-found 8 0 (sym (own-slots t served _ _ _ 8 0 h (names-slots (slots-8 t _ _ u))))

    module _ (u : length l ≡ length p) (r : Surveyed) (e : r ≡ survey_of t) where
      named : r.readings ≡ length t.readings
      named = ap (λ (r : Surveyed). r.readings) e

      pub names-9 : length l < r.readings → SavedNames served t bytes a a l l p p out out (refusal 9 0)
      names-9 k = let n = named in names-as-found 9 0 (sym (own-slots t served _ _ _ 9 0 h (names-slots (slots-9 t _ _ u (omega arith)))))

      module _ (k : r.readings ≤ length l) where
        names-enough : decoding_names (surviving t) (length a) (length l) (length p) ≡ done (length t.readings)
        names-enough = let n = named in names-slots (slots-done t _ _ u (omega arith))

        pub names-10 : length out < length bytes → SavedNames served t bytes a a l l p p out out (refusal 10 0)
        names-10 f = names-as-found 10 0 (sym (own-10 t served _ _ _ _ h names-enough f))

        pub names-done : (size : ℕ) (a' l' p' out' : List ℕ) → size ≡ length bytes → size ≤ length out
            → a' ≡ map start_of t.readings ++ drop (length (map start_of t.readings)) a
            → l' ≡ map length_of t.readings ++ drop (length (map length_of t.readings)) l
            → p' ≡ map flag_of t.readings ++ drop (length (map flag_of t.readings)) p
            → out' ≡ bytes ++ drop (length bytes) out
            → SavedNames served t bytes a a' l l' p p' out out' (saved r.readings size r.number r.place)
        unfolding left_by
        names-done size a' l' p' out' s f x y z c =
            record {
              answer = ap (λ (r : Surveyed). saved r.readings size r.number r.place) e
                  ∙ ap (λ (n : ℕ). saved (survey_of t).readings n (survey_of t).number (survey_of t).place) s
                  ∙ sym (own-done t served _ _ _ _ h names-enough (omega arith));
              starts = x;
              lens = y;
              flags = z;
              output = c;
            }
