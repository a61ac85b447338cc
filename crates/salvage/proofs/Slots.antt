-- What survives stands in the slots and can be written from there: the list that the slots say is the kept one, it is judged good, and what a reader or
-- writer that is not refused leaves behind. Assumes nothing.
use Prim.Native.Nat.{ℕ, suc, ◌≤◌}
use mathlib.Core.Path.{◌≡◌, refl, sym, ◌∙◌, ap}
use mathlib.Core.List.{List, [], ◌∷◌, ◌++◌, map}
use mathlib.Core.Option.{Option, none, some}
use native.Mathlib.Omega.{arith}
use lib.ListN.{length, take, drop, length-map}
use lib.Seq.{take_at}
use borrow.Author.Tests.{eq-eqb, le-leb}
use Rattle.leb128.specs.Answer.{Answer, done, within, left}
use Rattle.encoding.specs.Column.{Reading, absent, present, value}
use Rattle.encoding.specs.Given.{slot_list, bad_flag, flags_judged, list_judged, sized, Encoded}
use Rattle.encoding.specs.Limit.{limit}
use Rattle.encoding.specs.Slots.{slot_of, flag_of, Decoded}
use Rattle.encoding.specs.Survivors.{surviving}
use Rattle.encoding.specs.Walk.{Trace}
use Rattle.salvage.proofs.Saving.{slots-done}

-- ---- the list that the slots say

pub slots-list : {B : Type 0} (z : B) (rs : List (Reading B)) → slot_list (map (slot_of z) rs) (map flag_of rs) ≡ map value rs
unfolding slot_list value
slots-list z [] = refl
slots-list z (absent ∷ rs) = ap (λ (l : List (Option _)). none ∷ l) (slots-list z rs)
slots-list z (present a place ∷ rs) = ap (λ (l : List (Option _)). some a ∷ l) (slots-list z rs)

flags-good : {B : Type 0} (i : ℕ) (rs : List (Reading B)) → bad_flag i (map flag_of rs) ≡ none
unfolding bad_flag
flags-good i [] = refl
flags-good i (absent ∷ rs) = flags-good (suc i) rs
flags-good i (present a place ∷ rs) = flags-good (suc i) rs

pub list-good : (n : ℕ) (flags : List ℕ) → n ≡ length flags → bad_flag 0 flags ≡ none → n ≤ limit → list_judged n flags ≡ done n
unfolding list_judged flags_judged
list-good n flags e h l = rw (eq-eqb n (length flags) e) (rw h (rw (le-leb n limit l) refl))

pub kept-good : {B : Type 0} (z : B) (rs : List (Reading B)) → length rs ≤ limit → list_judged (length (map (slot_of z) rs)) (map flag_of rs) ≡ done (length (map (slot_of z) rs))
kept-good z rs l =
    list-good (length (map (slot_of z) rs)) (map flag_of rs) (length-map rs (slot_of z) ∙ sym (length-map rs flag_of)) (flags-good 0 rs) (omega (arith, length-map rs (slot_of z)))

-- ---- what is left behind

pub front : {B : Type 0} (new old : List B) (n : ℕ) → length new ≡ n → take n (new ++ drop (length new) old) ≡ new
front new old n e = take_at new (drop (length new) old) n e

module _ {R B : Type 0} (t : Trace R) (f : R → B) (g : R → ℕ) (v v' : List B) (p p' : List ℕ) (o : Answer) (d : Decoded (surviving t) f g v v' p p' o)
    (even : length v ≡ length p) (room : length t.readings ≤ length v) where
  answered : o ≡ done (length t.readings)
  answered = d.answer ∙ slots-done t (length v) (length p) even room

  put : {C : Type 0} (h : R → C) (l l' : List C) → l' ≡ left o (map h t.readings) l → l' ≡ map h t.readings ++ drop (length (map h t.readings)) l
  unfolding left
  put h l l' e =
      e ∙ ap (λ (x : Answer). left x (map h t.readings) l) answered
      ∙ ap (λ (n : ℕ). map h t.readings ++ drop n l) (sym (length-map t.readings h))

  pub kept-values : v' ≡ map f t.readings ++ drop (length (map f t.readings)) v
  kept-values = put f v v' d.values

  pub kept-flags : p' ≡ map g t.readings ++ drop (length (map g t.readings)) p
  kept-flags = put g p p' d.flags

-- a list that is judged good, and for which there is room, is written
pub written : (bytes : List ℕ) (judged : Answer) (out out' : List ℕ) (o : Answer) (n : ℕ) → Encoded bytes judged out out' o → judged ≡ done n
    → length bytes ≤ length out → out' ≡ bytes ++ drop (length bytes) out
unfolding left within sized
written bytes judged out out' o n h e l =
    let a : o ≡ done (length bytes) = h.answer ∙ ap (λ (j : Answer). within 10 (length out) (sized bytes j)) e ∙ rw (le-leb (length bytes) (length out) l) refl in
    h.output ∙ ap (λ (x : Answer). left x bytes out) a
