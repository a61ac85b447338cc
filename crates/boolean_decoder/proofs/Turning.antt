-- Laws of a boolean column: each count takes a byte at least, stays within, and counts its readings, which are all the same; so it is a
-- machine to be walked (`turns`). And a count by how it reads: what the code's branches cite. Assumes nothing.
use Prim.Native.Nat.{ℕ, ◌+◌, ◌-◌, ◌≤◌, ◌<◌}
use mathlib.Core.Path.{◌≡◌, refl, sym, ◌∙◌, ap, subst}
use mathlib.Core.List.{List, []}
use native.Mathlib.Nat.{add-zero}
use native.Mathlib.Omega.{arith}
use lib.ListN.{length, replicate, length-replicate}
use lib.Dec.{ltb, leb}
use borrow.Author.Tests.{leb-true, lt-ltb, le-ltb, le-leb, lt-leb}
use Rattle.leb128.specs.Got.{Got, got, bad}
use Rattle.leb128.specs.Read.{u64_at}
use Rattle.leb128.proofs.Laws.{u64-next}
use Rattle.encoding.specs.Limit.{limit}
use Rattle.encoding.specs.Survivors.{surveyed, survey_of}
use Rattle.encoding.specs.Walk.{Run, Trace, Next, over, on, off, whole, cut, stop, onward, sound, fault}
use Rattle.encoding.proofs.Lists.{cond-by}
use Rattle.encoding.proofs.Surveying.{surveys, surveys-start, surveys-off, surveys-over}
use Rattle.encoding.proofs.Walking.{Machine, rest, rest-is, next-eq, readings-eq}
use Rattle.boolean_decoder.specs.Turns.{Turn, turn, counted, turn_at, turns_from, bool_trace}

-- ---- a count by how it reads

module _ (st : Turn) where
  pub counted-whole : (c q : ℕ) → st.had + c ≤ limit → counted st (got c q) ≡ whole (replicate c st.flag) (turn q (st.had + c) (1 - st.flag))
  unfolding counted
  counted-whole c q m = simp (le-leb (st.had + c) limit m)

  pub counted-many : (c q : ℕ) → limit < st.had + c → counted st (got c q) ≡ cut 5 st.at
  unfolding counted
  counted-many c q m = simp (lt-leb (st.had + c) limit m)

  pub counted-bad : (number place : ℕ) → counted st (bad number place) ≡ cut number place
  unfolding counted
  counted-bad number place = refl

module _ (s : List ℕ) (st : Turn) where
  pub turn-read : (g : Got ℕ) → st.at < length s → u64_at s st.at ≡ g → turn_at s st ≡ counted st g
  unfolding turn_at
  turn-read g l e = simp (lt-ltb st.at (length s) l, e)

  pub turn_end : length s ≤ st.at → turn_at s st ≡ stop
  unfolding turn_at
  turn_end l = simp (le-ltb st.at (length s) l)

-- ---- where a count leads

-- from the state st a count of the readings xs leads on to the state z
pub record Turned (s : List ℕ) (st : Turn) (xs : List ℕ) (z : Turn) : Type 0 where
  pub ahead : st.at < z.at
  pub within : z.at ≤ length s
  pub counts : z.had ≡ st.had + length xs
  pub capped : z.had ≤ limit
  pub other : z.flag ≡ 1 - st.flag
  pub same : xs ≡ replicate (z.had - st.had) st.flag

-- and so whatever follows it; one that is at fault has no readings
abbrev Sane : List ℕ → Turn → List ℕ → Next Turn → Type 0
Sane s st xs over = Unit {0}
Sane s st xs (on z) = Turned s st xs z
Sane s st xs (off number place) = xs ≡ []

module _ (s : List ℕ) (st : Turn) where
  sane-whole : (c q : ℕ) → u64_at s st.at ≡ got c q → st.had + c ≤ limit → Turned s st (replicate c st.flag) (turn q (st.had + c) (1 - st.flag))
  sane-whole c q e m =
      let h = u64-next s st.at c q e in
      let k : c ≡ st.had + c - st.had = omega arith in
      record {
        ahead = h.0;
        within = h.1;
        counts = ap (λ (j : ℕ). st.had + j) (sym (length-replicate c st.flag));
        capped = m;
        other = refl;
        same = ap (λ (j : ℕ). replicate j st.flag) k;
      }

  sane-counted : (g : Got ℕ) → u64_at s st.at ≡ g → Sane s st (counted st g).readings (counted st g).next
  unfolding counted
  sane-counted (got c q) e =
      cond-by (λ (r : Run ℕ Turn). Sane s st r.readings r.next) (leb (st.had + c) limit)
      (λ t. sane-whole c q e (leb-true (st.had + c) limit t)) (λ t. refl)
  sane-counted (bad number place) e = refl

  sane-turn : Sane s st (turn_at s st).readings (turn_at s st).next
  unfolding turn_at
  sane-turn =
      cond-by (λ (r : Run ℕ Turn). Sane s st r.readings r.next) (ltb st.at (length s))
      (λ t. sane-counted (u64_at s st.at) refl) (λ t. tt)

  pub turned : (z : Turn) → (turn_at s st).next ≡ on z → Turned s st (turn_at s st).readings z
  turned z e = subst (Sane s st (turn_at s st).readings) e sane-turn

  pub off-none : (number place : ℕ) → (turn_at s st).next ≡ off number place → (turn_at s st).readings ≡ []
  off-none number place e = subst (Sane s st (turn_at s st).readings) e sane-turn

-- THE MACHINE of a boolean column
abbrev pub turns : List ℕ → Machine ℕ Turn
turns s =
    record {
      run = turn_at s;
      left = λ st. length s - st.at;
      had = λ st. st.had;
      falls = λ st z e. let h = turned s st z e in omega (arith, h.ahead, h.within);
      counts = λ st z e. (turned s st z e).counts;
      capped = λ st z e. (turned s st z e).capped;
    }

pub trace-rest : (s : List ℕ) → bool_trace s ≡ rest (turns s) (turn 0 0 0)
unfolding bool_trace turns_from rest
trace-rest s = refl

-- what comes from a state on is the count there, and then what comes behind it
pub turns-on : (s : List ℕ) (st : Turn) → turns_from s st ≡ onward (turn_at s st) (λ z. turns_from s z)
unfolding turns_from rest
turns-on s st = rest-is (turns s) st (turn_at s st).next refl

-- its readings, by the count there
pub readings-on : (s : List ℕ) (st : Turn) {r : Run ℕ Turn} → turn_at s st ≡ r → (turns_from s st).readings ≡ (onward r (λ z. turns_from s z)).readings
readings-on s st e = ap (λ (t : Trace ℕ). t.readings) (turns-on s st ∙ ap (λ (r : Run ℕ Turn). onward r (λ z. turns_from s z)) e)

-- what looking the readings over owes, at the start and where the bytes end
pub surveys-trace : (s : List ℕ) → survey_of (bool_trace s) ≡ surveys (turns s) (turn 0 0 0)
surveys-trace s = ap survey_of (trace-rest s) ∙ surveys-start (turns s) (turn 0 0 0) refl

pub surveys-end : (s : List ℕ) (st : Turn) → length s ≤ st.at → surveys (turns s) st ≡ surveyed st.had sound
surveys-end s st l = let e = turn_end s st l in surveys-over (turns s) st (next-eq e) (readings-eq e)

-- a count at fault has no readings
pub surveys-cut : (s : List ℕ) (st : Turn) (number place : ℕ) → (turn_at s st).next ≡ off number place → surveys (turns s) st ≡ surveyed st.had (fault number place)
surveys-cut s st number place e =
    let k : 0 ≡ length (turn_at s st).readings = sym (ap length (off-none s st number place e)) in
    surveys-off (turns s) st 0 number place e k ∙ ap (λ (n : ℕ). surveyed n (fault number place)) (add-zero st.had)
