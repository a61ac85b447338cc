-- 01, "Lists in slots": "A boolean list is one slice of such bytes." Decoding checks column faults by first occurrence, then 9.
use Rattle.std.specs.Prelude.{ℕ, ◌≡◌, List, length}
use Rattle.leb128.specs.Answer.{Answer, within, left}
use Rattle.encoding.specs.Walk.{Trace, outcome}

-- a column of this trace decoded: the answer o, and the slice before (v) and after (v')
pub record Decoded (t : Trace ℕ) (v v' : List ℕ) (o : Answer) : Type 0 where
  pub answer : o ≡ within 9 (length v) (outcome t)
  pub values : v' ≡ left o t.readings v
