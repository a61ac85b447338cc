-- 02, [3]: "which run of which column, the byte where that run begins, .. the index of the reading at fault". A column walked so that its runs are kept, over any
-- kind of reading and any state between runs; put together again they are the trace that everything else uses.
use Rattle.std.specs.Prelude.{ℕ, zero, suc, List, [], ◌∷◌}
use Rattle.encoding.specs.Walk.{Run, Next, over, on, off, Trace, sound, fault, before}

-- a run, and the state before it: for a column that ends soundly, the last one is the end itself, which has no readings
pub record Walked (R S : Type 0) : Type 0 where
  pub state : S
  pub run : Run R S

abbrev pub walked : {R S : Type 0} → S → Run R S → Walked R S
walked st r = record { state = st; run = r }

abbrev pub later : {R S : Type 0} → Next S → (S → List (Walked R S)) → List (Walked R S)
later over k = []
later (on z) k = k z
later (off number place) k = []

-- run after run, at most so many more than one, up to the one at fault
unfoldable pub runs : {R S : Type 0} → (S → Run R S) → ℕ → S → List (Walked R S)
runs run zero st = walked st (run st) ∷ []
runs run (suc f) st = walked st (run st) ∷ later (run st).next (λ z. runs run f z)

-- their readings one after another, and the ending
abbrev pub ended : {R S : Type 0} → Next S → Trace R → Trace R
ended over t = t
ended (on z) t = t
ended (off number place) t = record { readings = []; ending = fault number place }

unfoldable pub flat : {R S : Type 0} → List (Walked R S) → Trace R
flat [] = record { readings = []; ending = sound }
flat (w ∷ ws) = before w.run.readings (ended w.run.next (flat ws))

-- the run at fault, with its index
pub record Fallen (R S : Type 0) : Type 0 where
  pub index : ℕ
  pub at : Walked R S
