-- 02, [5]: a column read a reading at a time, over any kind of reading and any state between the calls.
use Rattle.std.specs.Prelude.{ℕ, zero, suc, List, [], ◌∷◌, cond, eqb}
use Rattle.encoding.specs.Walk.{Ending, sound, fault, Trace, Next, over, on, off}

-- one step: the ending, which is the end or a refusal; or a reading, and the state behind it
pub data Stepped (R S : Type 0) : Type 0 where
  ends : Ending → Stepped R S
  gives : R → S → Stepped R S

-- the state after a step from c; a refusing call leaves the state as it was, and so does the end
unfoldable pub behind : {R S : Type 0} → S → Stepped R S → S
behind c (ends e) = c
behind c (gives r d) = d

-- the state after n calls
unfoldable pub calls : {R S : Type 0} → (S → Stepped R S) → ℕ → S → S
calls step zero c = c
calls step (suc n) c = calls step n (behind c (step c))

-- what a call says
pub data Said (R : Type 0) : Type 0 where
  reading : R → Said R
  ended : Ending → Said R

unfoldable pub said : {R S : Type 0} → Stepped R S → Said R
said (ends e) = ended e
said (gives r d) = reading r

-- what the call with n calls before it has to say: "the readings in order .. and then the end, however often asked"; of a faulty column
-- "the readings before the first faulty reading come first, then the refusal .., again at every later call"
unfoldable pub say_at : {R : Type 0} → List R → Ending → ℕ → Said R
say_at [] e n = ended e
say_at (r ∷ rs) e zero = reading r
say_at (r ∷ rs) e (suc n) = say_at rs e n

unfoldable pub nth : {R : Type 0} → Trace R → ℕ → Said R
nth t n = say_at t.readings t.ending n

-- ---- runs that add nothing are passed within a step

abbrev pub onto : {S T : Type 0} → Next S → (S → Next T) → Next T
onto over k = over
onto (on c) k = k c
onto (off number place) k = off number place

-- the first state with a reading left, this one or one behind it: `left` counts the readings left of the present run, `enter` goes into
-- the next run; fewer than so many runs are entered
unfoldable pub ready : {S : Type 0} → (S → ℕ) → (S → Next S) → ℕ → S → Next S
ready left enter zero c = over
ready left enter (suc f) c = cond (eqb (left c) 0) (onto (enter c) (λ d. ready left enter f d)) (on c)

-- and one reading there
abbrev pub drawn : {R S : Type 0} → (S → Stepped R S) → Next S → Stepped R S
drawn one over = ends sound
drawn one (on c) = one c
drawn one (off number place) = ends (fault number place)
