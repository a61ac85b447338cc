-- What survives of a boolean column is a list that can be written: bytes 0 and 1, no more than the limit. So what `save` leaves in the slot and the
-- output; and the size that is found for it. Assumes nothing.
use Prim.Native.Nat.{ℕ, ◌≤◌}
use mathlib.Core.Path.{◌≡◌, refl, sym, ◌∙◌, ap, subst}
use mathlib.Core.List.{List, ◌++◌}
use mathlib.Core.Bool.{Bool, true}
use native.Mathlib.Omega.{arith}
use lib.ListN.{length, take, drop}
use borrow.Author.Tests.{le-leb}
use Rattle.leb128.specs.Answer.{Answer, done, refused, within, left}
use Rattle.encoding.specs.Given.{list_judged, Encoded}
use Rattle.encoding.specs.Survivors.{survey_of, surviving, Surveyed}
use Rattle.encoding.specs.Walk.{Trace}
use Rattle.encoding.proofs.Surveying.{survey-readings}
use Rattle.boolean_decoder.specs.Decoded.{Decoded}
use Rattle.boolean_decoder.specs.Turns.{bool_trace}
use Rattle.boolean_decoder.proofs.Clean.{read-clean}
use Rattle.boolean_decoder.proofs.Limits.{bool-limit}
use Rattle.boolean_encoder.specs.Writer.{bool_bytes}
use Rattle.rewriting.specs.Rewritten.{rewritten_turns}
use Rattle.salvage.specs.Salvage.{Outcome, saved, refusal, SavedTurns}
use Rattle.salvage.proofs.Room.{size-found, size-refused}
use Rattle.salvage.proofs.Saving.{kept-all, turns-10, turns-done}
use Rattle.salvage.proofs.Slots.{list-good, front, written}

-- what survives can be written
turns-good : (s : List ℕ) → list_judged (length (bool_trace s).readings) (bool_trace s).readings ≡ done (length (bool_trace s).readings)
turns-good s = list-good (length (bool_trace s).readings) (bool_trace s).readings refl (read-clean s 0) (bool-limit s)

-- ---- what `keep` leaves in the slots, where they take it

kept-turns : (t : Trace ℕ) (v v' : List ℕ) (o : Answer) → Decoded (surviving t) v v' o → length t.readings ≤ length v
    → v' ≡ t.readings ++ drop (length t.readings) v
unfolding left within
kept-turns t v v' o d l =
    let a : o ≡ done (length t.readings) = d.answer ∙ rw (kept-all t) (rw (le-leb (length t.readings) (length v) l) refl) in
    d.values ∙ ap (λ (x : Answer). left x t.readings v) a

-- ---- and what is saved

-- what survives of a column, as a fresh one
abbrev pub fresh : List ℕ → List ℕ
fresh s = bool_bytes (bool_trace s).readings

abbrev Put : List ℕ → ℕ → List ℕ → List ℕ → Answer → Type 0
Put v n out out' o = Encoded (bool_bytes (take n v)) (list_judged (length (take n v)) (take n v)) out out' o

module _ (s v out : List ℕ) (r : Surveyed) (e : r ≡ survey_of (bool_trace s)) (l : r.readings ≤ length v) where
  pub save-done : (size : ℕ) → size ≡ length (fresh s) → size ≤ length out → (v' out' : List ℕ) (k o : Answer)
      → Decoded (surviving (bool_trace s)) v v' k → Put v' r.readings out out' o
      → SavedTurns true (bool_trace s) (fresh s) v v' out out' (saved r.readings size r.number r.place)
  save-done size f m v' out' k o d h =
      let xs : List ℕ = (bool_trace s).readings in
      let n : r.readings ≡ length xs = survey-readings (bool_trace s) r e in
      let w : v' ≡ xs ++ drop (length xs) v = kept-turns (bool_trace s) v v' k d (omega arith) in
      let x : take r.readings v' ≡ xs = ap (take r.readings) w ∙ front xs v r.readings (sym n) in
      let p : Encoded (fresh s) (list_judged (length xs) xs) out out' o =
      subst (λ (ys : List ℕ). Encoded (bool_bytes ys) (list_judged (length ys) ys) out out' o) x h in
      turns-done (bool_trace s) (fresh s) v out refl r e l size v' out' f m w
      (written (fresh s) (list_judged (length xs) xs) out out' o (length xs) p (turns-good s) (omega arith))

  -- no room for it
  pub save-short : {served : Bool} → served ≡ true → {number place : ℕ} → within 10 (length out) (done (length (rewritten_turns s))) ≡ refused number place
      → SavedTurns served (bool_trace s) (fresh s) v v out out (refusal number place)
  unfolding rewritten_turns
  save-short h {number = number} {place = place} q =
      let x = size-refused (length out) (length (fresh s)) number place q in
      let a : number ≡ 10 = let y = x.0 in cc in
      let b : place ≡ 0 = let y = x.0 in cc in
      rw (a, b) (turns-10 (bool_trace s) (fresh s) v out h r e l x.1)

-- the size that was found, of the type that is served
pub fresh-size : (s : List ℕ) {room size : ℕ} → within 10 room (done (length (rewritten_turns s))) ≡ done size → (size ≡ length (fresh s)) × (size ≤ room)
unfolding rewritten_turns
fresh-size s {room = room} {size = size} q = size-found room (length (fresh s)) size q

pub save-served : {served : Bool} → served ≡ true → {t : Trace ℕ} {bytes v v' out out' : List ℕ} {o : Outcome}
    → SavedTurns true t bytes v v' out out' o → SavedTurns served t bytes v v' out out' o
save-served h x = rw h x
