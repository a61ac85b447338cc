-- 01, "Lists in slots": a list that is given in slices, and what encoding it answers and leaves behind.
use Rattle.std.specs.Prelude.{ℕ, suc, ◌≡◌, List, [], ◌∷◌, cond, length, leb, eqb}
use Rattle.std.proofs.Math.Option.{Option, none, some}
use Rattle.leb128.specs.Answer.{Answer, done, refused, within, left}
use Rattle.encoding.specs.Limit.{limit}

abbrev pub given : {B : Type 0} → ℕ → B → Option B
given flag v = cond (eqb flag 0) none (some v)

-- values with their presence bytes; "the value of an absent reading is not looked at in a given list"
unfoldable pub slot_list : {B : Type 0} → List B → List ℕ → List (Option B)
slot_list [] p = []
slot_list (v ∷ vs) [] = []
slot_list (v ∷ vs) (b ∷ p) = given b v ∷ slot_list vs p

-- the first byte above 1, counting from i
unfoldable pub bad_flag : ℕ → List ℕ → Option ℕ
bad_flag i [] = none
bad_flag i (b ∷ p) = cond (leb b 1) (bad_flag (suc i) p) (some i)

-- n values with their bytes: refusal 8, "0 for lengths, judged first, else the first bad index"; then 5, place 0 for a lent list
unfoldable pub flags_judged : ℕ → Option ℕ → Answer
flags_judged n (some i) = refused 8 i
flags_judged n none = cond (leb n limit) (done n) (refused 5 0)

unfoldable pub list_judged : ℕ → List ℕ → Answer
list_judged n p = cond (eqb n (length p)) (flags_judged n (bad_flag 0 p)) (refused 8 0)

-- how many bytes the list takes, where nothing is wrong with it
unfoldable pub sized : List ℕ → Answer → Answer
sized bytes (done n) = done (length bytes)
sized bytes (refused number place) = refused number place

-- "When encoding: 8, 5, 7, 10": a list of these bytes, or refused as judged, put at the front of an output (out before, out' after)
pub record Encoded (bytes : List ℕ) (judged : Answer) (out out' : List ℕ) (o : Answer) : Type 0 where
  pub answer : o ≡ within 10 (length out) (sized bytes judged)
  pub output : out' ≡ left o bytes out
