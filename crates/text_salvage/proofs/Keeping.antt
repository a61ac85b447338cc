-- What survives of a column of names is kept by starts and lengths, and written from there; and the size that is found for it. Assumes nothing.
use Prim.Native.Nat.{ℕ, ◌≤◌, ◌<◌}
use mathlib.Core.Path.{◌≡◌, refl, sym, ◌∙◌, ap}
use mathlib.Core.List.{List, ◌++◌, map}
use mathlib.Core.Bool.{Bool, true}
use native.Mathlib.Omega.{arith}
use lib.ListN.{length, get_or, take, drop, length-map}
use borrow.Author.Tests.{eq-eqb}
use Rattle.leb128.specs.Answer.{Answer, done, refused, within}
use Rattle.encoding.specs.Column.{Reading, value, trace}
use Rattle.encoding.specs.Given.{Encoded}
use Rattle.encoding.specs.Slots.{flag_of, decoding, Decoded}
use Rattle.encoding.specs.Survivors.{survey_of, surviving, Surveyed}
use Rattle.encoding.specs.Walk.{Trace}
use Rattle.encoding.specs.Writer.{column_bytes}
use Rattle.encoding.proofs.Surveying.{survey-readings}
use Rattle.text.specs.Given.{name_list, names_judged}
use Rattle.text.specs.Name.{start_of, length_of}
use Rattle.text.specs.Text.{text_e}
use Rattle.text_decoder.specs.Slots.{decoding_names, DecodedNames}
use Rattle.rewriting.specs.Rewritten.{rewritten, rewritten_as}
use Rattle.runs.specs.declared.Values.TheVariants as values
use Rattle.salvage.specs.Salvage.{Outcome, saved, refusal, SavedNames}
use Rattle.salvage.proofs.Answering.{all-values}
use Rattle.salvage.proofs.Room.{size-found, size-refused}
use Rattle.salvage.proofs.Saving.{names-10, names-done}
use Rattle.salvage.proofs.Slots.{front, kept-values, kept-flags, written}
use Rattle.text_salvage.proofs.Again.{names-said, judged-again}

-- ---- what `keep` leaves in the slots: both pairs of slices, with the same presence bytes

module _ {t : Trace (Reading (List ℕ))} {a a' l l' p p' : List ℕ} {o : Answer} (d : DecodedNames t a a' l l' p p' o) (h : length a ≡ length l) where
  of-lens : Decoded t length_of flag_of l l' p p' o
  unfolding decoding_names
  of-lens = record { answer = d.answer ∙ rw (eq-eqb (length a) (length l) h) refl; values = d.lens; flags = d.flags }

  of-starts : Decoded t start_of flag_of a a' p p' o
  of-starts = record { answer = of-lens.answer ∙ ap (λ (n : ℕ). decoding t n (length p)) (sym h); values = d.starts; flags = d.flags }

-- ---- and what is saved

-- what survives of a column, as a fresh one
abbrev pub fresh : List ℕ → List ℕ
fresh s = column_bytes text_e (map value (trace text_e s).readings)

abbrev Put : List ℕ → List ℕ → List ℕ → List ℕ → List ℕ → List ℕ → Answer → Type 0
Put s a l p out out' o = Encoded (column_bytes text_e (name_list s a l p)) (names_judged s a l p) out out' o

-- as many readings as survive are all of them
all-rewritten : (s : List ℕ) (r : Surveyed) → r ≡ survey_of (trace text_e s) → rewritten_as values.Names s r.readings ≡ fresh s
unfolding rewritten_as rewritten
all-rewritten s r e = ap (column_bytes text_e) (all-values (trace text_e s) r e)

module _ (s a l p out : List ℕ) (w : length a ≡ length l) (u : length l ≡ length p) (r : Surveyed) (e : r ≡ survey_of (trace text_e s)) (m : r.readings ≤ length l) where
  abbrev n : ℕ
  n = r.readings

  abbrev rs : List (Reading (List ℕ))
  rs = (trace text_e s).readings

  -- the front of slots that hold a reading each is the readings'
  front_of : (f : Reading (List ℕ) → ℕ) (v v' : List ℕ) → v' ≡ map f rs ++ drop (length (map f rs)) v → take n v' ≡ map f rs
  front_of f v v' k = ap (take n) k ∙ front (map f rs) v n (length-map rs f ∙ sym (survey-readings (trace text_e s) r e))

  pub save-done : ((i : ℕ) → get_or s i 0 < 256) → (size : ℕ) → size ≡ length (fresh s) → size ≤ length out → (a' l' p' out' : List ℕ) (k o : Answer)
      → DecodedNames (surviving (trace text_e s)) a a' l l' p p' k → Put s (take n a') (take n l') (take n p') out out' o
      → SavedNames true (trace text_e s) (fresh s) a a' l l' p p' out out' (saved r.readings size r.number r.place)
  save-done B size f g a' l' p' out' k o d put =
      let t : Trace (Reading (List ℕ)) = trace text_e s in
      let x = survey-readings t r e in
      let starts = kept-values t start_of flag_of a a' p p' k (of-starts d w) (w ∙ u) (omega arith) in
      let lens = kept-values t length_of flag_of l l' p p' k (of-lens d w) u (omega arith) in
      let flags = kept-flags t length_of flag_of l l' p p' k (of-lens d w) u (omega arith) in
      let i = front_of start_of a a' starts in
      let j = front_of length_of l l' lens in
      let q = front_of flag_of p p' flags in
      let b : name_list s (take n a') (take n l') (take n p') ≡ map value rs = rw (i, j, q) (names-said s B) in
      let c : names_judged s (take n a') (take n l') (take n p') ≡ done (length (map start_of rs)) = rw (i, j, q) (judged-again s B) in
      names-done t (fresh s) a l p out refl w u r e m size a' l' p' out' f g starts lens flags
      (written (fresh s) _ out out' o (length (map start_of rs)) (rw b at put) c (omega arith))

  -- no room for it
  pub save-short : {served : Bool} → served ≡ true → {number place : ℕ}
      → within 10 (length out) (done (length (rewritten_as values.Names s n))) ≡ refused number place
      → SavedNames served (trace text_e s) (fresh s) a a l l p p out out (refusal number place)
  save-short h {number = number} {place = place} q =
      let x = size-refused (length out) (length (fresh s)) number place (rw (all-rewritten s r e) at q) in
      let b : number ≡ 10 = let y = x.0 in cc in
      let c : place ≡ 0 = let y = x.0 in cc in
      rw (b, c) (names-10 (trace text_e s) (fresh s) a l p out h w u r e m x.1)

-- the size that was found
pub fresh-size : (s : List ℕ) (r : Surveyed) → r ≡ survey_of (trace text_e s) → {room size : ℕ}
    → within 10 room (done (length (rewritten_as values.Names s r.readings))) ≡ done size → (size ≡ length (fresh s)) × (size ≤ room)
fresh-size s r e {room = room} {size = size} q = size-found room (length (fresh s)) size (rw (all-rewritten s r e) at q)

pub save-served : {served : Bool} → served ≡ true → {t : Trace (Reading (List ℕ))} {bytes a a' l l' p p' out out' : List ℕ} {o : Outcome}
    → SavedNames true t bytes a a' l l' p p' out out' o → SavedNames served t bytes a a' l l' p p' out out' o
save-served h x = rw h x
