-- An edit that is ready, over the kind of column: its meaning, and what its slots, output and answer come to. Assumes nothing.
use Prim.Native.Nat.{ℕ, ◌+◌, ◌-◌, ◌≤◌, max}
use mathlib.Core.Path.{◌≡◌, refl, sym, ap, ◌∙◌}
use mathlib.Core.List.{List}
use mathlib.Core.Option.{Option, none, some}
use mathlib.Core.Bool.{Bool, true, false, cond}
use native.Mathlib.Omega.{arith}
use lib.Dec.{leb}
use lib.ListN.{length, get_or, take, drop}
use borrow.Author.Tests.{lt-ltb, le-ltb}
use Rattle.leb128.specs.Answer.{Answer, done}
use Rattle.encoding.specs.Limit.{limit}
use Rattle.block_frame.specs.Columns.{new_block}
use Rattle.column_part.specs.Part.{start_of}
use Rattle.slots.specs.Splice.{spliced, in_slots}
use Rattle.slots.proofs.Splicing.{length-spliced}
use Rattle.splice.specs.Kind.{Kind}
use Rattle.splice.specs.Edit.{Edited, accepted, end_in, refuses, finished, edited, answered, slots_left, out_left, Spliced}
use Rattle.splice.specs.declared.End.{End}
use Rattle.splice.specs.Ready.{Ready, finished_at, Finished}
use Rattle.splice.proofs.Planning.{sound-is, in_order}
use Rattle.splice.proofs.Refusing.{refuses-answer, refuses-out, refuses-slots}

-- ---- the end of an edit does not depend on the old list's length, but for the slots
module _ {A : Type 0} (K : Kind A) (xs : List A) (room : ℕ) (block : List ℕ → List ℕ) where
  same_answer : (n m : ℕ) (w : Option ℕ) → answered K (finished K n xs room block w) ≡ answered K (finished K m xs room block w)
  same_answer n m (some i) = refuses-answer K 7 i n xs ∙ sym (refuses-answer K 7 i m xs)
  same_answer n m none = go (leb (length (block (K.writes xs))) room)
    where
      go : (b : Bool) → answered K (cond b (accepted n xs (block (K.writes xs))) (refuses K 10 0 n xs))
          ≡ answered K (cond b (accepted m xs (block (K.writes xs))) (refuses K 10 0 m xs))
      go true = refl
      go false = refuses-answer K 10 0 n xs ∙ sym (refuses-answer K 10 0 m xs)

  same_out : (n m : ℕ) (w : Option ℕ) (out : List ℕ) → out_left (finished K n xs room block w) out ≡ out_left (finished K m xs room block w) out
  same_out n m (some i) out = refuses-out K 7 i n xs out ∙ sym (refuses-out K 7 i m xs out)
  same_out n m none out = go (leb (length (block (K.writes xs))) room)
    where
      go : (b : Bool) → out_left (cond b (accepted n xs (block (K.writes xs))) (refuses K 10 0 n xs)) out ≡ out_left (cond b (accepted m xs (block (K.writes xs))) (refuses K 10 0 m xs)) out
      go true = refl
      go false = refuses-out K 10 0 n xs out ∙ sym (refuses-out K 10 0 m xs out)

  slots-are : {B : Type 0} (z : B) (f : List A → List B) (n : ℕ) (w : Option ℕ) (slots : List B) → K.keeps ≡ false
      → slots_left z f (finished K n xs room block w) slots ≡ in_slots z slots n (f xs)
  slots-are z f n (some i) slots h = refuses-slots K 7 i n xs z f slots h
  slots-are z f n none slots h = go (leb (length (block (K.writes xs))) room)
    where
      go : (b : Bool) → slots_left z f (cond b (accepted n xs (block (K.writes xs))) (refuses K 10 0 n xs)) slots ≡ in_slots z slots n (f xs)
      go true = refl
      go false = refuses-slots K 10 0 n xs z f slots h

-- ---- its meaning
module _ {A : Type 0} (K : Kind A) {s : List ℕ} {position start : ℕ} {end : End} {n slots at till old len : ℕ} (new : List A) (many : n ≡ length new)
    (R : Ready K s position start end n slots at till old len) where
  -- the column, its old list and the new one
  abbrev pub column_in : List ℕ
  column_in = take (till - at) (drop at s)

  abbrev pub new_list : List A
  new_list = spliced (K.reads column_in).readings start (end_in end old) new

  column-is : take (get_or R.located.row.lens position 0) (drop (start_of R.located.row.lens R.located.row.next position) s) ≡ column_in
  column-is =
      let a : start_of R.located.row.lens R.located.row.next position ≡ at = sym R.located.at_is in
      let k : get_or R.located.row.lens position 0 ≡ till - at = omega (arith, R.located.at_is, R.located.till_is) in
      ap (λ (n : ℕ). take n (drop (start_of R.located.row.lens R.located.row.next position) s)) k ∙ ap (λ (n : ℕ). take (till - at) (drop n s)) a

  old-is : length (K.reads column_in).readings ≡ old
  old-is = sound-is (K.reads column_in) R.reads

  pub new-length : length new_list ≡ len
  new-length =
      length-spliced (K.reads column_in).readings start (end_in end old) new (in_order old start end R.not_below R.starts) (omega (arith, R.within, old-is))
      ∙ ap (λ (k : ℕ). start + length new + (k - end_in end old)) old-is ∙ ap (λ (k : ℕ). start + k + (old - end_in end old)) (sym many) ∙ sym R.long

  pub ready-edit : {given : Answer} {g : ℕ} (room : ℕ) → given ≡ done g
      → edited K s position start end given new slots room
      ≡ finished K old new_list room (new_block s R.located.row.specs R.located.row.lens R.located.row.next position) (K.wide new_list)
  unfolding edited
  ready-edit {given} {g} room q =
      let m : max old len ≤ slots = omega (arith, R.old_fits, R.new_fits) in
      rw (
        R.located.row.is,
        lt-ltb position (length R.located.row.specs) R.located.row.there,
        R.located.served,
        R.not_below,
        q,
        column-is,
        R.reads,
        old-is,
        le-ltb old start R.starts,
        le-ltb old (end_in end old) R.within,
        new-length,
        le-ltb limit len R.few,
        le-ltb slots (max old len) m,
      )

  module _ {given : Answer} {g : ℕ} (q : given ≡ done g) {out out' : List ℕ} {r : Spliced} (F : Finished K s position new_list out out' r) where
    at_row : finished_at K s position new_list (length out)
        ≡ finished K 0 new_list (length out) (new_block s R.located.row.specs R.located.row.lens R.located.row.next position) (K.wide new_list)
    unfolding finished_at
    at_row = rw R.located.row.is

    pub edit-answer : r ≡ answered K (edited K s position start end given new slots (length out))
    edit-answer =
        F.answer ∙ ap (answered K) at_row
        ∙ same_answer K new_list (length out) (new_block s R.located.row.specs R.located.row.lens R.located.row.next position) 0 old (K.wide new_list)
        ∙ ap (answered K) (sym (ready-edit (length out) q))

    pub edit-output : out' ≡ out_left (edited K s position start end given new slots (length out)) out
    edit-output =
        F.output ∙ ap (λ (e : Edited A). out_left e out) at_row
        ∙ same_out K new_list (length out) (new_block s R.located.row.specs R.located.row.lens R.located.row.next position) 0 old (K.wide new_list) out
        ∙ ap (λ (e : Edited A). out_left e out) (sym (ready-edit (length out) q))

    pub edit-slots : {B : Type 0} (z : B) (f : List A → List B) (v : List B) {v' : List B} → K.keeps ≡ false → v' ≡ in_slots z v old (f new_list)
        → v' ≡ slots_left z f (edited K s position start end given new slots (length out)) v
    edit-slots z f v h e =
        e ∙ sym (slots-are K new_list (length out) (new_block s R.located.row.specs R.located.row.lens R.located.row.next position) z f old (K.wide new_list) v h)
        ∙ ap (λ (x : Edited A). slots_left z f x v) (sym (ready-edit (length out) q))
