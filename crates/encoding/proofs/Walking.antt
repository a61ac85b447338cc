-- Laws of walking a column, over any machine: run-length, delta and boolean columns are three of them. The fuel does not matter; the rest
-- of a column is its next run and then the rest after it. A loop that goes run by run owes, at each state, the same answer (`owes`) and
-- the same slots (`fills`) as at its start. Assumes nothing.
use Prim.Native.Nat.{ℕ, zero, suc, ◌+◌, ◌≤◌, ◌<◌}
use mathlib.Core.Path.{◌≡◌, refl, sym, ◌∙◌, ap}
use mathlib.Core.List.{List, [], ◌++◌, map}
use native.Mathlib.Omega.{arith}
use lib.ListN.{length, length-append, length-map}
use lib.Seq.{sets}
use Rattle.leb128.specs.Answer.{Answer, done, refused}
use Rattle.encoding.specs.Limit.{limit}
use Rattle.encoding.specs.Walk.{Run, Next, over, on, off, Trace, walk, onward, before, after, outcome_of, outcome}
use Rattle.encoding.proofs.Lists.{map-append, sets-append}

-- two equal runs are followed by the same, and have the same readings
pub next-eq : {R S : Type 0} {r t : Run R S} → r ≡ t → r.next ≡ t.next
next-eq e = ap (λ r. r.next) e

pub readings-eq : {R S : Type 0} {r t : Run R S} → r ≡ t → r.readings ≡ t.readings
readings-eq e = ap (λ r. r.readings) e

-- what is walked: the run at a state, how much is left there, and how many readings came before it
pub record Machine (R S : Type 0) : Type 0 where
  pub run : S → Run R S
  pub left : S → ℕ
  pub had : S → ℕ
  -- a run leaves less, counts its readings, and stays within the limit
  pub falls : (st z : S) → (run st).next ≡ on z → left z < left st
  pub counts : (st z : S) → (run st).next ≡ on z → had z ≡ had st + length (run st).readings
  pub capped : (st z : S) → (run st).next ≡ on z → had z ≤ limit

-- the rest of a column from a state on
unfoldable pub rest : {R S : Type 0} → Machine R S → S → Trace R
rest M st = walk M.run (M.left st) st

-- its answer, the readings before it counted
unfoldable pub owes : {R S : Type 0} → Machine R S → S → Answer
owes M st = outcome_of (M.had st + length (rest M st).readings) (rest M st).ending

-- slots with what is still to come put in
unfoldable pub fills : {R S B : Type 0} → Machine R S → (R → B) → S → List B → List B
fills M f st l = sets l (M.had st) (map f (rest M st).readings)

module _ {R S : Type 0} (M : Machine R S) where
  onward-eq : (st : S) (k l : S → Trace R) → ((z : S) → M.left z < M.left st → k z ≡ l z) → onward (M.run st) k ≡ onward (M.run st) l
  onward-eq st k l h = ap (before (M.run st).readings) (go (M.run st).next refl)
    where
      go : (x : Next S) → (M.run st).next ≡ x → after x k ≡ after x l
      go over e = refl
      go (on z) e = h z (M.falls st z e)
      go (off number place) e = refl

  fuel : (f g : ℕ) (st : S) → M.left st ≤ f → M.left st ≤ g → walk M.run f st ≡ walk M.run g st
  unfolding walk
  fuel zero zero st hf hg = refl
  fuel zero (suc g) st hf hg = onward-eq st _ _ (λ z lt. absurd (omega arith))
  fuel (suc f) zero st hf hg = onward-eq st _ _ (λ z lt. absurd (omega arith))
  fuel (suc f) (suc g) st hf hg = onward-eq st _ _ (λ z lt. fuel f g z (omega arith) (omega arith))

  walk_at : (f : ℕ) (st : S) → M.left st ≤ f → walk M.run f st ≡ onward (M.run st) (λ z. walk M.run (M.left z) z)
  unfolding walk
  walk_at zero st h = onward-eq st _ _ (λ z lt. absurd (omega arith))
  walk_at (suc f) st h = onward-eq st _ _ (λ z lt. fuel f (M.left z) z (omega arith) (omega arith))

  -- the rest of a column is its next run, and the rest after that
  pub rest-is : (st : S) (x : Next S) → (M.run st).next ≡ x → rest M st ≡ before (M.run st).readings (after x (rest M))
  unfolding rest
  rest-is st x e = walk_at (M.left st) st (omega arith) ∙ ap (λ (y : Next S). before (M.run st).readings (after y (λ z. walk M.run (M.left z) z))) e

  -- ---- the answer

  owes_is : (st : S) (x : Next S) → (M.run st).next ≡ x
      → owes M st ≡ outcome_of (M.had st + length (M.run st).readings + length (after x (rest M)).readings) (after x (rest M)).ending
  unfolding owes
  owes_is st x e =
      let t : Trace R = after x (rest M) in
      let k : M.had st + length ((M.run st).readings ++ t.readings) ≡ M.had st + length (M.run st).readings + length t.readings = omega (arith, length-append (M.run st).readings t.readings) in
      ap (λ (t : Trace R). outcome_of (M.had st + length t.readings) t.ending) (rest-is st x e) ∙ ap (λ (n : ℕ). outcome_of n t.ending) k

  pub owes-start : (st : S) → M.had st ≡ 0 → outcome (rest M st) ≡ owes M st
  unfolding outcome owes
  owes-start st e =
      let k : length (rest M st).readings ≡ M.had st + length (rest M st).readings = omega arith in
      ap (λ (n : ℕ). outcome_of n (rest M st).ending) k

  pub owes-on : (st z : S) → (M.run st).next ≡ on z → owes M st ≡ owes M z
  unfolding owes
  owes-on st z e = owes_is st (on z) e ∙ ap (λ (n : ℕ). outcome_of (n + length (rest M z).readings) (rest M z).ending) (sym (M.counts st z e))

  pub owes-off : (st : S) (number place : ℕ) → (M.run st).next ≡ off number place → owes M st ≡ refused number place
  unfolding outcome_of
  owes-off st number place e = owes_is st (off number place) e

  pub owes-over : (st : S) → (M.run st).next ≡ over → (M.run st).readings ≡ [] → owes M st ≡ done (M.had st)
  unfolding outcome_of
  owes-over st e r = let k : M.had st + length (M.run st).readings + 0 ≡ M.had st = omega (arith, ap length r) in owes_is st over e ∙ ap done k

  -- ---- the slots

  module _ {B : Type 0} (f : R → B) where
    fills-is : (st : S) (x : Next S) (l : List B) → (M.run st).next ≡ x
        → fills M f st l ≡ sets (sets l (M.had st) (map f (M.run st).readings)) (M.had st + length (M.run st).readings) (map f (after x (rest M)).readings)
    unfolding fills
    fills-is st x l e =
        let xs = (M.run st).readings in
        let ys = (after x (rest M)).readings in
        ap (λ (t : Trace R). sets l (M.had st) (map f t.readings)) (rest-is st x e)
        ∙ ap (sets l (M.had st)) (map-append f xs ys) ∙ sets-append l (M.had st) (map f xs) (map f ys)
        ∙ ap (λ (n : ℕ). sets (sets l (M.had st) (map f xs)) (M.had st + n) (map f ys)) (length-map xs f)

    pub fills-on : (st z : S) (l : List B) → (M.run st).next ≡ on z → fills M f st l ≡ fills M f z (sets l (M.had st) (map f (M.run st).readings))
    unfolding fills
    fills-on st z l e =
        fills-is st (on z) l e ∙ ap (λ (n : ℕ). sets (sets l (M.had st) (map f (M.run st).readings)) n (map f (rest M z).readings)) (sym (M.counts st z e))

    pub fills-off : (st : S) (number place : ℕ) (l : List B) → (M.run st).next ≡ off number place → fills M f st l ≡ sets l (M.had st) (map f (M.run st).readings)
    fills-off st number place l e = fills-is st (off number place) l e

    pub fills-over : (st : S) (l : List B) → (M.run st).next ≡ over → (M.run st).readings ≡ [] → fills M f st l ≡ l
    fills-over st l e r = fills-is st over l e ∙ ap (λ (xs : List R). sets l (M.had st) (map f xs)) r

  -- the room for the rest is room for the next run, and for the rest after it
  pub run_room : (st : S) (x : Next S) → (M.run st).next ≡ x
      → length (rest M st).readings ≡ length (M.run st).readings + length (after x (rest M)).readings
  run_room st x e = ap (λ (t : Trace R). length t.readings) (rest-is st x e) ∙ length-append (M.run st).readings (after x (rest M)).readings
