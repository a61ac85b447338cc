-- Looking for the run that has a reading, run by run, over any machine: what is found from each run on is what is found from the first. A run that has it, or that ends
-- the column, is the one; else it stands behind. Then a boolean column's counts by how they read. Assumes nothing.
use Prim.Native.Nat.{ℕ, zero, suc, ◌+◌, ◌-◌, ◌≤◌, ◌<◌}
use mathlib.Core.Path.{◌≡◌, refl, sym, ◌∙◌, ap}
use mathlib.Core.List.{List, []}
use mathlib.Core.Option.{Option, some}
use mathlib.Core.Bool.{Bool, true, false, cond}
use native.Mathlib.Decide.{dec_lt}
use native.Mathlib.Numerals.{add-one}
use native.Mathlib.Omega.{arith}
use lib.Dec.{ltb}
use lib.ListN.{length}
use borrow.Author.Tests.{lt-ltb, le-ltb}
use Rattle.leb128.specs.Got.{got, bad}
use Rattle.leb128.specs.Read.{u64_at}
use Rattle.encoding.specs.Column.{Reading, Spot}
use Rattle.encoding.specs.Limit.{limit}
use Rattle.encoding.specs.Walk.{Next, on, Run}
use Rattle.encoding.proofs.Columns.{columns}
use Rattle.encoding.proofs.Walking.{Machine, next-eq}
use Rattle.boolean_decoder.specs.Turns.{Turn, turn, turn_at}
use Rattle.boolean_decoder.proofs.Turning.{counted-whole, counted-many, counted-bad, turn-read, turn_end, turns}
use Rattle.runs.proofs.Ends.{element_laws}
use Rattle.runs.specs.Values.{element_of}
use Rattle.runs.specs.declared.Values.{Values}
use Rattle.reason.specs.Reason.{ends_here, holding}
use Rattle.reason.specs.Runs.{Walked, walked, later, runs, Fallen}

-- a run-length column's runs, whatever its values are
abbrev pub spots : (v : Values) (s : List ℕ) → Machine (Reading (element_of v).A) Spot
spots v s = columns (element_of v).E (element_laws v) s

-- what is found, x, is what is found from the run on that begins at st and has the index k
abbrev pub Seeking : {R S : Type 0} → Machine R S → ℕ → Option (Fallen R S) → ℕ → S → Type 0
Seeking M n x k st = (f : ℕ) × (M.left st ≤ f) × (x ≡ holding M.had n k (runs M.run f st))

-- the run with the index k, at a state
abbrev pub here : {R S : Type 0} → Machine R S → ℕ → S → Option (Fallen R S)
here M k st = some (record { index = k; at = walked st (M.run st) })

module _ {R S : Type 0} (M : Machine R S) (n k : ℕ) (st : S) where
  -- the run at a state, what follows it, and the runs behind it
  by-run : Next S → List (Walked R S) → Option (Fallen R S)
  by-run y ws = cond (ltb n (M.had st + length (M.run st).readings)) (here M k st) (cond (ends_here y) (here M k st) (holding M.had n (suc k) ws))

  found : (f : ℕ) → (ws : List (Walked R S)) × (holding M.had n k (runs M.run f st) ≡ by-run (M.run st).next ws)
  unfolding runs holding by-run
  found zero = ([], refl)
  found (suc f) = (later (M.run st).next (λ z. runs M.run f z), refl)

  module _ {x : Option (Fallen R S)} (h : Seeking M n x k st) where
    -- it has the reading; or the column ends with it
    pub seek-in : n < M.had st + length (M.run st).readings → x ≡ here M k st
    unfolding by-run
    seek-in l = h.2 ∙ (found h.0).1 ∙ rw (lt-ltb n (M.had st + length (M.run st).readings) l) refl

    pub seek-ends : ends_here (M.run st).next ≡ true → x ≡ here M k st
    unfolding by-run
    seek-ends e = h.2 ∙ (found h.0).1 ∙ rw e (both (ltb n (M.had st + length (M.run st).readings)))
      where
        both : (b : Bool) → cond b (here M k st) (here M k st) ≡ here M k st
        both true = refl
        both false = refl

    -- it leads on to z, and has the reading, or has it not
    module _ (z : S) (e : (M.run st).next ≡ on z) where
      pub seek-within : n < M.had z → x ≡ here M k st
      seek-within l = seek-in (omega (arith, M.counts st z e))

      pub seek-on : M.had z ≤ n → Seeking M n x (k + 1) z
      unfolding runs holding
      seek-on l = go h.0 h.1 h.2
        where
          less : M.left z < M.left st
          less = M.falls st z e

          not_in : ltb n (M.had st + length (M.run st).readings) ≡ false
          not_in = le-ltb n (M.had st + length (M.run st).readings) (omega (arith, M.counts st z e))

          go : (f : ℕ) → M.left st ≤ f → x ≡ holding M.had n k (runs M.run f st) → Seeking M n x (k + 1) z
          go zero b i = absurd (omega (arith, less))
          go (suc f) b i = (
            f,
            omega (arith, less),
            i ∙ ap (λ (t : Bool). cond t (here M k st) (cond (ends_here (M.run st).next) (here M k st) (holding M.had n (suc k) (later (M.run st).next (λ z. runs M.run f z))))) not_in
                ∙ ap (λ (y : Next S). cond (ends_here y) (here M k st) (holding M.had n (suc k) (later y (λ z. runs M.run f z)))) e
                ∙ ap (λ (j : ℕ). holding M.had n j (runs M.run f z)) (sym (add-one k)),
          )

-- ---- a boolean column

-- whatever byte the count at a position counts
abbrev pub SeekingTurn : List ℕ → ℕ → Option (Fallen ℕ Turn) → ℕ → ℕ → ℕ → Type 0
SeekingTurn s n x k at had = (flag : ℕ) × Seeking (turns s) n x k (turn at had flag)

-- and it is the one
abbrev pub FoundTurn : List ℕ → Option (Fallen ℕ Turn) → ℕ → ℕ → ℕ → Type 0
FoundTurn s x k at had = (flag : ℕ) × (x ≡ here (turns s) k (turn at had flag))

module _ (s : List ℕ) (n : ℕ) {x : Option (Fallen ℕ Turn)} (k at had : ℕ) (h : SeekingTurn s n x k at had) where
  ends : {y : Run ℕ Turn} → turn_at s (turn at had h.0) ≡ y → ends_here y.next ≡ true → FoundTurn s x k at had
  ends e t = (h.0, seek-ends (turns s) n k (turn at had h.0) h.1 (ap ends_here (next-eq e) ∙ t))

  pub turn-over : length s ≤ at → FoundTurn s x k at had
  turn-over l = ends (turn_end s (turn at had h.0) l) refl

  module _ (l : at < length s) where
    pub turn-bad : (number place : ℕ) → u64_at s at ≡ bad number place → FoundTurn s x k at had
    turn-bad number place e = ends (turn-read s (turn at had h.0) (bad number place) l e ∙ counted-bad (turn at had h.0) number place) refl

    module _ (c q : ℕ) (e : u64_at s at ≡ got c q) where
      goes : had + c ≤ limit → (turn_at s (turn at had h.0)).next ≡ on (turn q (had + c) (1 - h.0))
      goes m = next-eq (turn-read s (turn at had h.0) (got c q) l e ∙ counted-whole (turn at had h.0) c q m)

      -- it reaches beyond the reading, and passes the limit or not
      pub turn-beyond : had ≤ n → n - had < c → FoundTurn s x k at had
      turn-beyond a b = elim (dec_lt limit (had + c)) [
        | yes m ↦ ends (turn-read s (turn at had h.0) (got c q) l e ∙ counted-many (turn at had h.0) c q m) refl
        | no m ↦ (h.0, seek-within (turns s) n k (turn at had h.0) h.1 (turn q (had + c) (1 - h.0)) (goes (omega arith)) (omega arith))
      ]

      pub turn-behind : n ≤ limit → had ≤ n → c ≤ n - had → SeekingTurn s n x (k + 1) q (had + c)
      turn-behind m a b = (1 - h.0, seek-on (turns s) n k (turn at had h.0) h.1 (turn q (had + c) (1 - h.0)) (goes (omega arith)) (omega arith))
