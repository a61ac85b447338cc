-- What a call answers, and what it leaves in a lent buffer (01, "Refusal numbers").
use Rattle.std.specs.Prelude.{ℕ, List, ◌++◌, cond, leb, length, drop}

-- a number that counts what was done; or a refusal's number and place
pub data Answer : Type 0 where
  done : ℕ → Answer
  refused : ℕ → ℕ → Answer

-- the answer where there is room for so many, and else the refusal `short`, place 0
unfoldable pub within : ℕ → ℕ → Answer → Answer
within short room (done n) = cond (leb n room) (done n) (refused short 0)
within short room (refused number place) = refused number place

-- "on success an output holds the result at its front and is otherwise unchanged"; a refusal changes nothing
unfoldable pub left : {B : Type 0} → Answer → List B → List B → List B
left (done n) new old = new ++ drop n old
left (refused number place) new old = old

-- bytes written at the front of an output, or refusal 10
unfoldable pub written : List ℕ → List ℕ → Answer
written out bs = within 10 (length out) (done (length bs))
