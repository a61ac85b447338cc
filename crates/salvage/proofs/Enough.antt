-- AN OUTPUT OF 11 TIMES THE COLUMN'S BYTES IS ALWAYS ENOUGH: with one no salvage is refused with 10, whatever the column, its type and the slots. Assumes
-- nothing.
use Prim.Native.Nat.{ℕ, ◌*◌, ◌≤◌}
use mathlib.Core.Path.{◌≡◌, sym, ◌∙◌}
use mathlib.Core.List.{List, map}
use mathlib.Core.Bool.{Bool, true, false, cond}
use native.Mathlib.Omega.{arith}
use lib.Dec.{leb, eqb}
use lib.IntN.{ℤ, pos}
use lib.ListN.{length}
use borrow.Author.Tests.{le-leb}
use Rattle.leb128.specs.Answer.{Answer, done, refused, within}
use Rattle.encoding.specs.Column.{value, trace}
use Rattle.encoding.specs.Slots.{decoding}
use Rattle.encoding.specs.Survivors.{surviving}
use Rattle.encoding.specs.Walk.{Trace, outcome}
use Rattle.encoding.specs.Writer.{column_bytes}
use Rattle.encoding.proofs.Lists.{cond-by}
use Rattle.rle_decoder.specs.Word.{u64_e}
use Rattle.delta_decoder.specs.Sums.{delta_trace}
use Rattle.delta_encoder.specs.Differences.{delta_bytes}
use Rattle.boolean_decoder.specs.Turns.{bool_trace}
use Rattle.boolean_encoder.specs.Writer.{bool_bytes}
use Rattle.text.specs.Text.{text_e}
use Rattle.text_decoder.specs.Slots.{decoding_names}
use Rattle.salvage.specs.Kept.{Bytes}
use Rattle.salvage.specs.Salvage.{Outcome, refusal, judged, room_for, reported, SavedOptional, SavedTurns, SavedNames}
use Rattle.salvage.proofs.Fresh.{fresh-integers, fresh-deltas, fresh-booleans, fresh-names}
use Rattle.salvage.proofs.Saving.{kept-all}

-- slots say 8 or 9, and never 10
abbrev Other : Answer → Type 0
Other (done n) = Unit {0}
Other (refused number place) = number ≡ 10 → ⊥

few-other : {R : Type 0} (t : Trace R) (room : ℕ) → Other (within 9 room (outcome (surviving t)))
unfolding within
few-other t room = rw (kept-all t) (cond-by Other (leb (length t.readings) room) (λ e. tt) (λ e z. omega arith))

slots-other : {R : Type 0} (t : Trace R) (values flags : ℕ) → Other (decoding (surviving t) values flags)
unfolding decoding
slots-other t values flags = cond-by Other (eqb values flags) (λ e. few-other t values) (λ e z. omega arith)

names-other : {R : Type 0} (t : Trace R) (starts lens flags : ℕ) → Other (decoding_names (surviving t) starts lens flags)
unfolding decoding_names
names-other t starts lens flags = cond-by Other (eqb starts lens) (λ e. slots-other t lens flags) (λ e z. omega arith)

never-10 : {R : Type 0} (t : Trace R) (served : Bool) (slots : Answer) (size room place : ℕ) → Other slots → size ≤ room
    → reported t (judged served slots size room) ≡ refusal 10 place → ⊥
unfolding reported judged within
never-10 t served slots size room place h l = go served slots h
  where
    go : (b : Bool) (x : Answer) → Other x → reported t (cond b (room_for size room x) (refused 17 0)) ≡ refusal 10 place → ⊥
    go false x h e = let z : ◌≡◌ {A = ℕ} 17 10 = cc in omega arith
    go true (done n) h e = let f = rw (le-leb size room l) at e in let z : ◌≡◌ {A = ℕ} 0 1 = cc in omega arith
    go true (refused number q) h e = let z : number ≡ 10 = cc in h z

-- THE LAW, by kinds
module _ (s : List ℕ) (B : Bytes s) {served : Bool} {p p' out out' : List ℕ} {o : Outcome} (room : 11 * length s ≤ length out) (place : ℕ) where
  pub enough-integers : {v v' : List ℕ}
      → SavedOptional served (trace u64_e s) 0 (column_bytes u64_e (map value (trace u64_e s).readings)) v v' p p' out out' o → o ≡ refusal 10 place → ⊥
  enough-integers {v} {v'} h e =
      never-10 (trace u64_e s) served _ _ _ place (slots-other (trace u64_e s) (length v) (length p)) (omega (arith, (fresh-integers s B).eleven))
      (sym h.answer ∙ e)

  pub enough-deltas : {v v' : List ℤ}
      → SavedOptional served (delta_trace s) (pos 0) (delta_bytes (map value (delta_trace s).readings)) v v' p p' out out' o → o ≡ refusal 10 place → ⊥
  enough-deltas {v} {v'} h e =
      never-10 (delta_trace s) served _ _ _ place (slots-other (delta_trace s) (length v) (length p)) (omega (arith, (fresh-deltas s B).eleven))
      (sym h.answer ∙ e)

  pub enough-names : {a a' l l' : List ℕ}
      → SavedNames served (trace text_e s) (column_bytes text_e (map value (trace text_e s).readings)) a a' l l' p p' out out' o → o ≡ refusal 10 place → ⊥
  enough-names {a} {a'} {l} {l'} h e =
      never-10 (trace text_e s) served _ _ _ place (names-other (trace text_e s) (length a) (length l) (length p)) (omega (arith, (fresh-names s B).eleven))
      (sym h.answer ∙ e)

  pub enough-booleans : SavedTurns served (bool_trace s) (bool_bytes (bool_trace s).readings) p p' out out' o → o ≡ refusal 10 place → ⊥
  enough-booleans h e =
      never-10 (bool_trace s) served _ _ _ place (few-other (bool_trace s) (length p)) (omega (arith, (fresh-booleans s).eleven)) (sym h.answer ∙ e)
