-- A column's fault has a refusal's number, never 0, over any machine and any element. Assumes nothing.
use Prim.Native.Nat.{ℕ, zero, suc, ◌+◌, ◌-◌, ◌<◌}
use mathlib.Core.Path.{◌≡◌, refl}
use mathlib.Core.List.{List}
use native.Mathlib.Omega.{arith}
use lib.Dec.{ltb, leb, eqb}
use lib.IntN.{ℤ, pos, negsuc}
use lib.ListN.{length}
use Rattle.leb128.specs.Got.{Got, got, bad}
use Rattle.leb128.specs.Read.{u64_at, i64_at}
use Rattle.leb128.proofs.Refusals.{u64-fault, i64-fault}
use Rattle.encoding.specs.Limit.{limit}
use Rattle.encoding.specs.Walk.{Ending, sound, fault, Run, Next, over, on, off, Trace, walk, after}
use Rattle.encoding.specs.Element.{Element}
use Rattle.encoding.specs.Head.{Head, amiss, absent_head, begun, head_at}
use Rattle.encoding.specs.Column.{Reading, Spot, spot, repeated, literal_next, literals, run_of, run_at, trace_from, trace}
use Rattle.encoding.proofs.Lists.{cond-by}

abbrev pub Numbered : Ending → Type 0
Numbered sound = Unit {0}
Numbered (fault number place) = 0 < number

abbrev pub SomeOff : {S : Type 0} → Next S → Type 0
SomeOff over = Unit {0}
SomeOff (on z) = Unit {0}
SomeOff (off number place) = 0 < number

-- ---- over any machine
module _ {R S : Type 0} (run : S → Run R S) (some : (st : S) → SomeOff (run st).next) where
  after-some : (x : Next S) (k : S → Trace R) → SomeOff x → ((z : S) → Numbered (k z).ending) → Numbered (after x k).ending
  after-some over k h f = tt
  after-some (on z) k h f = f z
  after-some (off number place) k h f = h

  pub walk-numbered : (f : ℕ) (st : S) → Numbered (walk run f st).ending
  unfolding walk
  walk-numbered zero st = after-some (run st).next _ (some st) (λ z. tt)
  walk-numbered (suc f) st = after-some (run st).next _ (some st) (λ z. walk-numbered f z)

-- ---- how a run begins
abbrev SomeAmiss : Head → Type 0
SomeAmiss (Head.repeat c q) = Unit {0}
SomeAmiss (Head.literal c q) = Unit {0}
SomeAmiss (Head.absent c q) = Unit {0}
SomeAmiss (amiss number place) = 0 < number

absent-some : (s : List ℕ) (had q : ℕ) (g : Got ℕ) → u64_at s q ≡ g → SomeAmiss (absent_head had q g)
unfolding absent_head
absent-some s had q (got c next) e = cond-by SomeAmiss (leb (had + c) limit) (λ h. tt) (λ h. omega arith)
absent-some s had q (bad number place) e = u64-fault s q number place e

begun-some : (s : List ℕ) (at had : ℕ) (g : Got ℤ) → i64_at s at ≡ g → SomeAmiss (begun s at had g)
unfolding begun
begun-some s at had (got (pos c) q) e =
    cond-by SomeAmiss (eqb c 0) (λ h. absent-some s had q (u64_at s q) refl) (λ h. cond-by SomeAmiss (leb (had + c) limit) (λ l. tt) (λ l. omega arith))
begun-some s at had (got (negsuc c) q) e = cond-by SomeAmiss (leb (had + suc c) limit) (λ l. tt) (λ l. omega arith)
begun-some s at had (bad number place) e = i64-fault s at number place e

head-some : (s : List ℕ) (at had : ℕ) → SomeAmiss (head_at s at had)
unfolding head_at
head-some s at had = begun-some s at had (i64_at s at) refl

-- ---- a column of an element whose own refusals are so
module _ {A : Type 0} (E : Element A) (s : List ℕ) (some : (p number place : ℕ) → E.read s p ≡ bad number place → 0 < number) where
  repeated-some : (had c q : ℕ) (g : Got A) → E.read s q ≡ g → SomeOff (repeated had c q g).next
  unfolding repeated
  repeated-some had c q (got a next) e = tt
  repeated-some had c q (bad number place) e = some q number place e

  literals-some : (total c q : ℕ) → SomeOff (literals E s total c q).next
  unfolding literals literal_next
  literals-some total zero q = tt
  literals-some total (suc c) q = go (E.read s q) refl (λ z. literals-some total c z)
    where
      go : (g : Got A) → E.read s q ≡ g → ((z : ℕ) → SomeOff (literals E s total c z).next) → SomeOff (literal_next q g (λ z. literals E s total c z)).next
      go (got a z) e k = k z
      go (bad number place) e k = some q number place e

  opened_some : (had : ℕ) (h : Head) → SomeAmiss h → SomeOff (run_of E s had h).next
  unfolding run_of
  opened_some had (Head.repeat c q) h = repeated-some had c q (E.read s q) refl
  opened_some had (Head.literal c q) h = literals-some (had + c) c q
  opened_some had (Head.absent c q) h = tt
  opened_some had (amiss number place) h = h

  run-some : (st : Spot) → SomeOff (run_at E s st).next
  unfolding run_at
  run-some st =
      cond-by (λ (r : Run (Reading A) Spot). SomeOff r.next) (ltb st.at (length s))
      (λ e. opened_some st.had (head_at s st.at st.had) (head-some s st.at st.had)) (λ e. tt)

  pub trace-numbered : Numbered (trace E s).ending
  unfolding trace trace_from
  trace-numbered = walk-numbered (run_at E s) run-some (length s - 0) (spot 0 0)
