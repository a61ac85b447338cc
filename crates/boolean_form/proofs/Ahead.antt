-- Looking ahead over the counts of a boolean column for the end of equal readings: what the loop owes between two counts, and the ways out. Assumes nothing.
use Prim.Native.Nat.{ℕ, zero, suc, ◌+◌, ◌-◌, ◌≤◌, ◌<◌}
use mathlib.Core.Logic.{◌⊎◌, inl, inr}
use mathlib.Core.Path.{◌≡◌, refl, ◌∙◌, ap}
use mathlib.Core.List.{List, [], ◌++◌}
use native.Mathlib.Omega.{arith}
use lib.ListN.{length, replicate}
use borrow.Author.Tests.{eq-eqb, ne_eqb}
use Rattle.std.proofs.lemmas.Bool.{cases_lt}
use Rattle.leb128.specs.Got.{got, bad}
use Rattle.leb128.specs.Read.{u64_at}
use Rattle.leb128.proofs.Laws.{u64-next}
use Rattle.encoding.specs.Limit.{limit}
use Rattle.boolean_decoder.specs.Turns.{turn, counted, turn_at, turns_from}
use Rattle.boolean_decoder.proofs.Turning.{counted-whole, counted-many, counted-bad, turn-read, turn_end, readings-on}
use Rattle.boolean_encoder.specs.Ahead.{alike}

-- ---- so many equal readings in front of others

alike_same : (flag f c : ℕ) (xs : List ℕ) → (f ≡ flag) ⊎ (c ≤ 0) → alike flag (replicate c f ++ xs) ≡ c + alike flag xs
unfolding alike
alike_same flag f zero xs h = omega arith
alike_same flag f (suc c) xs (inl e) = rw (eq-eqb f flag e) (omega (arith, alike_same flag f c xs (inl e)))
alike_same flag f (suc c) xs (inr l) = absurd (omega arith)

alike-other : (flag f c : ℕ) (xs : List ℕ) → (f ≡ flag → ⊥) → 0 < c → alike flag (replicate c f ++ xs) ≡ 0
unfolding alike
alike-other flag f zero xs h l = absurd (omega arith)
alike-other flag f (suc c) xs h l = rw (ne_eqb f flag h)

-- ---- from the count at `at` on the loop has come to the one at p, behind k readings

pub record Looked (s : List ℕ) (at had flag p k f : ℕ) : Type 0 where
  pub owed : had + alike flag (turns_from s (turn at had flag)).readings ≡ k + alike flag (turns_from s (turn p k f)).readings
  pub capped : k ≤ limit
  pub bit : f ≤ 1

module _ (s : List ℕ) (at had flag : ℕ) where
  pub looked-start : had ≤ limit → flag ≤ 1 → Looked s at had flag at had flag
  looked-start l b = record { owed = refl; capped = l; bit = b }

  module _ {p k f : ℕ} (L : Looked s at had flag p k f) where
    -- no readings follow
    looked-none : (turns_from s (turn p k f)).readings ≡ [] → k ≡ had + alike flag (turns_from s (turn at had flag)).readings
    unfolding alike
    looked-none e = omega (arith, L.owed, ap (alike flag) e)

    -- no count is read here: the column is over, or has a fault
    pub looked-bad : (number place : ℕ) → u64_at s p ≡ bad number place → k ≡ had + alike flag (turns_from s (turn at had flag)).readings
    looked-bad number place e = looked-none (go (cases_lt p (length s)))
      where
        go : (p < length s) ⊎ (length s ≤ p) → (turns_from s (turn p k f)).readings ≡ []
        go (inl l) = readings-on s (turn p k f) (turn-read s (turn p k f) (bad number place) l e ∙ counted-bad (turn p k f) number place)
        go (inr l) = readings-on s (turn p k f) (turn_end s (turn p k f) l)

    module _ (c next : ℕ) (e : u64_at s p ≡ got c next) where
      read : turn_at s (turn p k f) ≡ counted (turn p k f) (got c next)
      read = turn-read s (turn p k f) (got c next) (omega (arith, u64-next s p c next e)) e

      pub looked-many : limit < k + c → k ≡ had + alike flag (turns_from s (turn at had flag)).readings
      looked-many m = looked-none (readings-on s (turn p k f) (read ∙ counted-many (turn p k f) c next m))

      module _ (m : k + c ≤ limit) where
        rest-is : (turns_from s (turn p k f)).readings ≡ replicate c f ++ (turns_from s (turn next (k + c) (1 - f))).readings
        rest-is = readings-on s (turn p k f) (read ∙ counted-whole (turn p k f) c next m)

        -- readings of the other byte
        pub looked-other : (f ≡ flag → ⊥) → 0 < c → k ≡ had + alike flag (turns_from s (turn at had flag)).readings
        looked-other h n = omega (arith, L.owed, ap (alike flag) rest-is, alike-other flag f c (turns_from s (turn next (k + c) (1 - f))).readings h n)

        -- more of the same, or none
        pub looked-on : (f ≡ flag) ⊎ (c ≤ 0) → Looked s at had flag next (k + c) (1 - f)
        looked-on h =
            let ys = (turns_from s (turn next (k + c) (1 - f))).readings in
            record { owed = omega (arith, L.owed, ap (alike flag) rest-is, alike_same flag f c ys h); capped = m; bit = omega (arith, L.bit) }
