-- How a salvage comes to its answer: by the type, by the size that a walk over the column finds for what is kept, and by writing the kept readings from
-- their slots; over any column of optional readings. Assumes nothing.
use Prim.Native.Nat.{ℕ, ◌≤◌}
use mathlib.Core.Path.{◌≡◌, refl, sym, ◌∙◌, ap}
use mathlib.Core.List.{List, map}
use mathlib.Core.Option.{Option}
use mathlib.Core.Bool.{Bool, true, false}
use native.Mathlib.Omega.{arith}
use lib.ListN.{length, take, length-map}
use lib.Seq.{take_all}
use borrow.Author.Tests.{eq-eqb, ne_eqb}
use Rattle.leb128.specs.Answer.{Answer, done, refused, within}
use Rattle.encoding.specs.Column.{Reading, value}
use Rattle.encoding.specs.Given.{slot_list, Encoded}
use Rattle.encoding.specs.Slots.{slot_of, flag_of, Decoded}
use Rattle.encoding.specs.Survivors.{survey_of, surviving, Surveyed}
use Rattle.encoding.specs.Walk.{Trace}
use Rattle.encoding.proofs.Surveying.{survey-readings}
use Rattle.column_specification.specs.Served.{integer_type}
use Rattle.salvage.specs.Salvage.{Outcome, saved, refusal, SavedOptional}
use Rattle.salvage.proofs.Room.{size-refused}
use Rattle.salvage.proofs.Saving.{saved-10, saved-done}
use Rattle.salvage.proofs.Slots.{slots-list, front, kept-values, kept-flags, written}

-- ---- the type: Actor, Integer, or another

pub of-actors : (t : ℕ) → t ≡ 1 → integer_type t ≡ true
of-actors t e = rw (eq-eqb t 1 e) refl

pub of_integers : (t : ℕ) → (t ≡ 1 → ⊥) → t ≡ 2 → integer_type t ≡ true
of_integers t a e = rw (ne_eqb t 1 a) (eq-eqb t 2 e)

pub of_others : (t : ℕ) → (t ≡ 1 → ⊥) → (t ≡ 2 → ⊥) → integer_type t ≡ false
of_others t a b = rw (ne_eqb t 1 a) (ne_eqb t 2 b)

-- ---- optional readings

-- the values of as many readings as survive are those of all that survive
pub all-values : {B : Type 0} (t : Trace (Reading B)) (r : Surveyed) → r ≡ survey_of t → take r.readings (map value t.readings) ≡ map value t.readings
all-values t r e = take_all r.readings (map value t.readings) (omega (arith, survey-readings t r e, length-map t.readings value))

pub saved-served : {B : Type 0} {served : Bool} {t : Trace (Reading B)} {z : B} {bytes : List ℕ} {v v' : List B} {p p' out out' : List ℕ} {o : Outcome}
    → served ≡ true → SavedOptional true t z bytes v v' p p' out out' o → SavedOptional served t z bytes v v' p p' out out' o
saved-served h x = rw h x

module _ {B : Type 0} (t : Trace (Reading B)) (z : B) (v : List B) (p out : List ℕ) (r : Surveyed) (e : r ≡ survey_of t) where
  -- the size is refused
  pub saved-too-long : {served : Bool} (bytes : List ℕ) (number place : ℕ) → served ≡ true → length v ≡ length p → r.readings ≤ length v
      → within 10 (length out) (done (length bytes)) ≡ refused number place → SavedOptional served t z bytes v v p p out out (refusal number place)
  saved-too-long bytes number place h even l k =
      let x = size-refused (length out) (length bytes) number place k in
      let a : number ≡ 10 = let y = x.0 in cc in
      let b : place ≡ 0 = let y = x.0 in cc in
      rw (a, b) (saved-10 t z bytes v p out h even r e l x.1)

  -- kept in the slots, and written from there by a writer that takes the list
  pub saved-whole : (write : List (Option B) → List ℕ) (judge : List B → List ℕ → Answer) (size m : ℕ) (v' : List B) (p' out' : List ℕ) (o w : Answer)
      → length v ≡ length p → r.readings ≤ length v → judge (map (slot_of z) t.readings) (map flag_of t.readings) ≡ done m
      → size ≡ length (write (map value t.readings)) → size ≤ length out
      → Decoded (surviving t) (slot_of z) flag_of v v' p p' o
      → Encoded (write (slot_list (take r.readings v') (take r.readings p'))) (judge (take r.readings v') (take r.readings p')) out out' w
      → SavedOptional true t z (write (map value t.readings)) v v' p p' out out' (saved r.readings size r.number r.place)
  saved-whole write judge size m v' p' out' o w even l good s f d put =
      let n = survey-readings t r e in
      let a = kept-values t (slot_of z) flag_of v v' p p' o d even (omega arith) in
      let b = kept-flags t (slot_of z) flag_of v v' p p' o d even (omega arith) in
      let i : take r.readings v' ≡ map (slot_of z) t.readings = ap (take r.readings) a ∙ front _ v r.readings (length-map t.readings (slot_of z) ∙ sym n) in
      let j : take r.readings p' ≡ map flag_of t.readings = ap (take r.readings) b ∙ front _ p r.readings (length-map t.readings flag_of ∙ sym n) in
      let q : slot_list (take r.readings v') (take r.readings p') ≡ map value t.readings = rw (i, j) (slots-list z t.readings) in
      let g : judge (take r.readings v') (take r.readings p') ≡ done m = rw (i, j) good in
      let c = written _ _ out out' w m (rw q at put) g (omega arith) in
      saved-done t z _ v p out refl even r e l size v' p' out' s f a b c
