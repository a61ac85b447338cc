-- 02, [1]: "Decoding gives each name's start and length in the column, both 0 where absent." Names decoded into lent slots: a slice of
-- starts, one of lengths and one of presence bytes, all equally long.
use Rattle.std.specs.Prelude.{ℕ, ◌≡◌, List, map, cond, length, eqb}
use Rattle.leb128.specs.Answer.{Answer, refused, left}
use Rattle.encoding.specs.Walk.{Trace}
use Rattle.encoding.specs.Column.{Reading}
use Rattle.encoding.specs.Slots.{flag_of, decoding}
use Rattle.text.specs.Name.{start_of, length_of}

-- 8 when any two of the slices differ in length, and then as with two slices
unfoldable pub decoding_names : {R : Type 0} → Trace R → ℕ → ℕ → ℕ → Answer
decoding_names t starts lens flags = cond (eqb starts lens) (decoding t lens flags) (refused 8 0)

-- a column of this trace decoded: the answer o, and the three slices before (a, l and p) and after (a', l' and p')
pub record DecodedNames (t : Trace (Reading (List ℕ))) (a a' l l' p p' : List ℕ) (o : Answer) : Type 0 where
  pub answer : o ≡ decoding_names t (length a) (length l) (length p)
  pub starts : a' ≡ left o (map start_of t.readings) a
  pub lens : l' ≡ left o (map length_of t.readings) l
  pub flags : p' ≡ left o (map flag_of t.readings) p
