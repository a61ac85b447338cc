-- 01, "Lists in slots": readings decoded into lent slots, a slice of values and an equally long slice of presence bytes.
use Rattle.std.specs.Prelude.{ℕ, ◌+◌, ◌≤◌, ◌≡◌, List, map, cond, length, eqb}
use Rattle.std.proofs.lemmas.List.Edits.{sets}
use Rattle.leb128.specs.Answer.{Answer, refused, within, left}
use Rattle.encoding.specs.Walk.{Trace, outcome}
use Rattle.encoding.specs.Column.{Reading, absent, present}

-- "The value of an absent reading .. is 0 in filled slots": a reading's value in its slot, where `nought` is the element's 0
abbrev pub slot_of : {A : Type 0} → A → Reading A → A
slot_of nought absent = nought
slot_of nought (present a place) = a

-- and its presence byte
abbrev pub flag_of : {A : Type 0} → Reading A → ℕ
flag_of absent = 0
flag_of (present a place) = 1

-- "Checks when decoding a column's bytes: 8 (lengths only), then column faults by first occurrence, then 9."
unfoldable pub decoding : {R : Type 0} → Trace R → ℕ → ℕ → Answer
decoding t values flags = cond (eqb values flags) (within 9 values (outcome t)) (refused 8 0)

-- a column of this trace decoded: the answer o, and the two slices before (v and p) and after (v' and p')
pub record Decoded {R B : Type 0} (t : Trace R) (f : R → B) (g : R → ℕ) (v v' : List B) (p p' : List ℕ) (o : Answer) : Type 0 where
  pub answer : o ≡ decoding t (length v) (length p)
  pub values : v' ≡ left o (map f t.readings) v
  pub flags : p' ≡ left o (map g t.readings) p

-- ---- what the private functions that fill slots ask and promise

-- slots with room for readings from n on
pub record Room {R B : Type 0} (rs : List R) (n : ℕ) (v : List B) (p : List ℕ) : Type 0 where
  pub room : n + length rs ≤ length v
  pub even : length p ≡ length v

-- readings put into both slices from n on
pub record Wrote {R B : Type 0} (f : R → B) (g : R → ℕ) (rs : List R) (n : ℕ) (v v' : List B) (p p' : List ℕ) : Type 0 where
  pub values : v' ≡ sets v n (map f rs)
  pub flags : p' ≡ sets p n (map g rs)
