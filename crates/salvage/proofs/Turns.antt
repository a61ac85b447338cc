-- What is kept of a boolean column lasts; and its fault is never 21. Assumes nothing.
use Prim.Native.Nat.{ℕ, zero, suc, ◌+◌, ◌-◌, ◌≤◌, ◌<◌}
use mathlib.Core.Path.{◌≡◌, refl, ap, subst}
use mathlib.Core.List.{List, ◌++◌}
use mathlib.Core.Bool.{Bool, true, false, cond}
use native.Mathlib.Omega.{arith}
use lib.Dec.{ltb, leb}
use lib.ListN.{length, length-append}
use borrow.Author.Tests.{ltb-true, lt-ltb}
use Rattle.leb128.specs.Got.{Got, got, bad}
use Rattle.leb128.specs.Read.{u64_at}
use Rattle.leb128.proofs.Refusals.{Begun, u64-begun}
use Rattle.encoding.specs.Limit.{limit}
use Rattle.encoding.specs.Walk.{Ending, sound, fault, Trace, Next, over, on, off, Run, stop, after, walk}
use Rattle.encoding.proofs.Lists.{cond-by}
use Rattle.boolean_decoder.specs.Turns.{Turn, turn, counted, turn_at, turns_from, bool_trace}
use Rattle.salvage.specs.Kept.{Lasting, Open}
use Rattle.salvage.proofs.Staying.{Stays, u64-stays}
use Rattle.salvage.proofs.Keeping.{prefix-nil, Keeps, keeps-lasting, KeepsRun, keeps-run, walk-keeps}

counted-keeps : (st : Turn) (g h : Got ℕ) → Stays g h → KeepsRun (counted st g) (counted st h)
unfolding counted
counted-keeps st (got c next) h e = rw e (keeps-run (counted st (got c next)))
counted-keeps st (bad number place) h e = (prefix-nil (counted st h).readings, λ f. ap (counted st) (e f))

module _ (s u : List ℕ) where
  turn-keeps : (st : Turn) → KeepsRun (turn_at s st) (turn_at (s ++ u) st)
  unfolding turn_at
  turn-keeps st = go (ltb st.at (length s)) refl
    where
      go : (t : Bool) → ltb st.at (length s) ≡ t
          → KeepsRun (cond t (counted st (u64_at s st.at)) stop) (cond (ltb st.at (length (s ++ u))) (counted st (u64_at (s ++ u) st.at)) stop)
      go false e = prefix-nil _
      go true e =
          let l : st.at < length (s ++ u) = omega (arith, ltb-true st.at (length s) e, length-append s u) in
          rw (lt-ltb st.at (length (s ++ u)) l) (counted-keeps st (u64_at s st.at) (u64_at (s ++ u) st.at) (u64-stays s u st.at))

  bool-keeps : Keeps (bool_trace s) (bool_trace (s ++ u))
  unfolding bool_trace turns_from
  bool-keeps = walk-keeps (turn_at s) (turn_at (s ++ u)) turn-keeps (length s - 0) (length (s ++ u) - 0) (omega (arith, length-append s u)) (turn 0 0 0)

-- THE LAW of a boolean column
pub bool-lasting : Lasting bool_trace
bool-lasting = keeps-lasting bool_trace bool-keeps

-- ---- never 21: a count that is due where the bytes end is none, and the column is over

abbrev Within : Next Turn → Type 0
Within over = Unit {0}
Within (on z) = Unit {0}
Within (off number place) = number ≤ 5

abbrev NotNone : Ending → Type 0
NotNone sound = Unit {0}
NotNone (fault number place) = number ≤ 5

counted-within : (st : Turn) (g : Got ℕ) → Begun g → Within (counted st g).next
unfolding counted
counted-within st (got c next) h = cond-by (λ (r : Run ℕ Turn). Within r.next) (leb (st.had + c) limit) (λ e. tt) (λ e. omega arith)
counted-within st (bad number place) h = omega (arith, h.1)

turn-within : (s : List ℕ) (st : Turn) → Within (turn_at s st).next
unfolding turn_at
turn-within s st =
    cond-by (λ (r : Run ℕ Turn). Within r.next) (ltb st.at (length s))
    (λ e. counted-within st (u64_at s st.at) (u64-begun s st.at (ltb-true st.at (length s) e))) (λ e. tt)

after-within : (x : Next Turn) (k : Turn → Trace ℕ) → Within x → ((z : Turn) → NotNone (k z).ending) → NotNone (after x k).ending
after-within over k h f = tt
after-within (on z) k h f = f z
after-within (off number place) k h f = h

walk-within : (s : List ℕ) (f : ℕ) (st : Turn) → NotNone (walk (turn_at s) f st).ending
unfolding walk
walk-within s zero st = after-within (turn_at s st).next _ (turn-within s st) (λ z. tt)
walk-within s (suc f) st = after-within (turn_at s st).next _ (turn-within s st) (λ z. walk-within s f z)

pub bool-never-21 : (s : List ℕ) (place : ℕ) → (bool_trace s).ending ≡ fault 21 place → ⊥
unfolding bool_trace turns_from
bool-never-21 s place e = let h = subst NotNone e (walk-within s (length s - 0) (turn 0 0 0)) in omega (arith, h)

-- so that nothing is left to say of it
pub bool-open : Open bool_trace (λ b. b)
bool-open = record { mended = λ s place e. absurd (bool-never-21 s place e); longest = λ s place e. absurd (bool-never-21 s place e) }
