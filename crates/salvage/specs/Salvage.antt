-- 02, [7]: the salvage "takes a column's bytes and its type, any served one, keeps the readings before the first faulty one, .. writes them as a fresh
-- column, and reports how many it kept, the refusal, and its place. A sound column is re-encoded, with no refusal reported." What a call answers, and
-- what it leaves in slots and output, over any kind of column.
use Rattle.std.specs.Prelude.{ℕ, ◌≡◌, List, ◌++◌, map, Bool, cond, length, drop, Result, Ok, Err}
use Rattle.refusal.specs.Number as why
use Rattle.refusal.specs.declared.Refusal.{Refusal}
use Rattle.leb128.specs.Answer.{Answer, done, refused, within}
use Rattle.encoding.specs.Column.{Reading}
use Rattle.encoding.specs.Slots.{slot_of, flag_of, decoding}
use Rattle.encoding.specs.Survivors.{number_of, place_of, ending_of, surviving}
use Rattle.encoding.specs.Walk.{Trace, outcome}
use Rattle.text.specs.Name.{start_of, length_of}
use Rattle.text_decoder.specs.Slots.{decoding_names}
use Rattle.salvage.specs.declared.Saved.{Saved}

-- how many readings were kept and bytes written, and the column's fault, 0 and 0 where there is none; or the call's own refusal
pub data Outcome : Type 0 where
  saved : ℕ → ℕ → ℕ → ℕ → Outcome
  refusal : ℕ → ℕ → Outcome

abbrev pub outcome_of : Result Saved Refusal → Outcome
outcome_of (Ok s) = saved s.kept s.written (number_of (ending_of s.fault)) (place_of (ending_of s.fault))
outcome_of (Err e) = refusal (why.number_of e.0) e.1

-- "Order of the call's own refusals: 17, 8, 9, 10": whether the type is served; what the slots say of the readings kept, 8 or 9; and whether the
-- output takes the bytes
abbrev pub room_for : ℕ → ℕ → Answer → Answer
room_for size room (done kept) = within 10 room (done size)
room_for size room (refused number place) = refused number place

unfoldable pub judged : Bool → Answer → ℕ → ℕ → Answer
judged served slots size room = cond served (room_for size room slots) (refused 17 0)

unfoldable pub reported : {R : Type 0} → Trace R → Answer → Outcome
reported t (done written) = saved (length t.readings) written (number_of t.ending) (place_of t.ending)
reported t (refused number place) = refusal number place

-- new at the front of what was there; "any of them leaves everything as found"
unfoldable pub left_by : {B : Type 0} → Outcome → List B → List B → List B
left_by (saved kept written number place) new old = new ++ drop (length new) old
left_by (refusal number place) new old = old

-- optional readings, whose values and presence bytes stood in v and p before and v' and p' after; the output before and after; and the answer o
pub record SavedOptional {B : Type 0} (served : Bool) (t : Trace (Reading B)) (nought : B) (bytes : List ℕ) (v v' : List B) (p p' out out' : List ℕ)
    (o : Outcome) : Type 0 where
  pub answer : o ≡ reported t (judged served (decoding (surviving t) (length v) (length p)) (length bytes) (length out))
  pub values : v' ≡ left_by o (map (slot_of nought) t.readings) v
  pub flags : p' ≡ left_by o (map flag_of t.readings) p
  pub output : out' ≡ left_by o bytes out

-- booleans
pub record SavedTurns (served : Bool) (t : Trace ℕ) (bytes : List ℕ) (v v' out out' : List ℕ) (o : Outcome) : Type 0 where
  pub answer : o ≡ reported t (judged served (within 9 (length v) (outcome (surviving t))) (length bytes) (length out))
  pub values : v' ≡ left_by o t.readings v
  pub output : out' ≡ left_by o bytes out

-- names, "for text, starts in the given column"
pub record SavedNames (served : Bool) (t : Trace (Reading (List ℕ))) (bytes : List ℕ) (a a' l l' p p' out out' : List ℕ) (o : Outcome) : Type 0 where
  pub answer : o ≡ reported t (judged served (decoding_names (surviving t) (length a) (length l) (length p)) (length bytes) (length out))
  pub starts : a' ≡ left_by o (map start_of t.readings) a
  pub lens : l' ≡ left_by o (map length_of t.readings) l
  pub flags : p' ≡ left_by o (map flag_of t.readings) p
  pub output : out' ≡ left_by o bytes out
