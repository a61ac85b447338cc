-- A boolean column's fault has a refusal's number, never 0. Assumes nothing.
use mathlib.Core.Path.{◌≡◌, refl}
use mathlib.Core.List.{List}
use Prim.Native.Nat.{ℕ, ◌+◌}
use native.Mathlib.Omega.{arith}
use lib.Dec.{ltb, leb}
use lib.ListN.{length}
use Rattle.leb128.specs.Got.{Got, got, bad}
use Rattle.leb128.specs.Read.{u64_at}
use Rattle.leb128.proofs.Refusals.{u64-fault}
use Rattle.encoding.specs.Limit.{limit}
use Rattle.encoding.specs.Walk.{Run}
use Rattle.encoding.proofs.Lists.{cond-by}
use Rattle.encoding.proofs.Faults.{Numbered, SomeOff, walk-numbered}
use Rattle.boolean_decoder.specs.Turns.{Turn, turn, counted, turn_at, turns_from, bool_trace}

abbrev SomeCut : Run ℕ Turn → Type 0
SomeCut r = SomeOff r.next

counted-some : (s : List ℕ) (st : Turn) (g : Got ℕ) → u64_at s st.at ≡ g → SomeCut (counted st g)
unfolding counted
counted-some s st (got c next) e = cond-by SomeCut (leb (st.had + c) limit) (λ h. tt) (λ h. omega arith)
counted-some s st (bad number place) e = u64-fault s st.at number place e

turn-some : (s : List ℕ) (st : Turn) → SomeCut (turn_at s st)
unfolding turn_at
turn-some s st = cond-by SomeCut (ltb st.at (length s)) (λ h. counted-some s st (u64_at s st.at) refl) (λ h. tt)

pub boolean-numbered : (s : List ℕ) → Numbered (bool_trace s).ending
unfolding turns_from bool_trace
boolean-numbered s = walk-numbered (turn_at s) (turn-some s) _ (turn 0 0 0)
