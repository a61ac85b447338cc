-- No boolean column reads as more readings than the limit, a faulty one neither. Assumes nothing.
use Prim.Native.Nat.{ℕ, ◌+◌, ◌≤◌}
use mathlib.Core.List.{List}
use native.Mathlib.Omega.{arith}
use lib.Dec.{ltb, leb}
use lib.ListN.{length, length-replicate}
use borrow.Author.Tests.{leb-true}
use Rattle.leb128.specs.Got.{Got, got, bad}
use Rattle.leb128.specs.Read.{u64_at}
use Rattle.encoding.specs.Limit.{limit}
use Rattle.encoding.specs.Walk.{Run}
use Rattle.encoding.proofs.Limits.{rest-limit}
use Rattle.encoding.proofs.Lists.{cond-by}
use Rattle.boolean_decoder.specs.Turns.{Turn, turn, counted, turn_at, bool_trace}
use Rattle.boolean_decoder.proofs.Turning.{turns, trace-rest}

counted-limit : (st : Turn) (g : Got ℕ) → st.had ≤ limit → st.had + length (counted st g).readings ≤ limit
unfolding counted
counted-limit st (got c q) h =
    cond-by (λ (r : Run ℕ Turn). st.had + length r.readings ≤ limit) (leb (st.had + c) limit)
    (λ e. omega (arith, leb-true (st.had + c) limit e, length-replicate c st.flag)) (λ e. omega arith)
counted-limit st (bad number place) h = omega arith

turn-limit : (s : List ℕ) (st : Turn) → st.had ≤ limit → st.had + length (turn_at s st).readings ≤ limit
unfolding turn_at
turn-limit s st h =
    cond-by (λ (r : Run ℕ Turn). st.had + length r.readings ≤ limit) (ltb st.at (length s))
    (λ e. counted-limit st (u64_at s st.at) h) (λ e. omega arith)

pub bool-limit : (s : List ℕ) → length (bool_trace s).readings ≤ limit
bool-limit s = rw (trace-rest s) (let k = rest-limit (turns s) (turn-limit s) (length s) (turn 0 0 0) (omega arith) (omega arith) in omega (arith, k))
