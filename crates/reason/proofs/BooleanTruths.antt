-- THE REASON OF A BOOLEAN COLUMN IS TRUE. A count is refused as a number, or passes the limit. Assumes nothing.
use Prim.Native.Nat.{ℕ, ◌+◌, ◌-◌, ◌≤◌}
use mathlib.Core.Path.{◌≡◌, refl, sym, ◌∙◌, ap}
use mathlib.Core.List.{List}
use mathlib.Core.Bool.{true}
use native.Mathlib.Omega.{arith}
use lib.Dec.{ltb, leb}
use lib.ListN.{length}
use borrow.Author.Tests.{eq-eqb, ne_eqb, ltb-true, leb-false}
use Rattle.leb128.specs.Got.{Got, got, bad}
use Rattle.leb128.specs.Read.{u64_at}
use Rattle.encoding.specs.Limit.{limit}
use Rattle.encoding.specs.Walk.{Run, off}
use Rattle.encoding.proofs.Lists.{cond-by}
use Rattle.boolean_decoder.specs.Turns.{Turn, turn, counted, turn_at, turns_from, bool_trace}
use Rattle.boolean_decoder.proofs.Turning.{turns}
use Rattle.reason.specs.Reason.{passes, Reason, unsigned_count, second, turn_facts, boolean_reason}
use Rattle.reason.specs.True.{Explained, Falls, TurnFault, BooleanTrue}
use Rattle.reason.proofs.Named.{Faulty}
use Rattle.reason.proofs.RunFaults.{Says, u64-unread}
use Rattle.reason.proofs.Truths.{explained, named-true, fault-named, unlike}

module _ (s : List ℕ) where
  -- what is at fault in a count
  turn-fault : (r : Reason) (st : Turn) → r.facts ≡ turn_facts s r.number r.place st → Faulty (turns s) r.index r.number r.place st → st.had ≤ limit
      → Falls (turn_at s) (λ st. st.had) (TurnFault s) st r
  unfolding turn_at counted
  turn-fault r st f y l = record { falls = y.0; index = y.1; fault = cond-by Told (ltb st.at (length s)) begun (λ t o. let z : ◌≡◌ {A = ℕ} 0 1 = cc in absurd (omega arith)) y.0 }
    where
      Told : Run ℕ Turn → Type 0
      Told x = x.next ≡ off r.number r.place → TurnFault s (length x.readings) st r

      five : r.number ≡ 5 → r.facts ≡ passes st.had (second (u64_at s st.at))
      five e = f ∙ rw (eq-eqb r.number 5 e) refl

      says : Says u64_at s r
      says e b = f ∙ rw (ne_eqb r.number 5 (unlike b 5 (omega arith) (omega arith))) refl

      counts : st.at ≤ length s → (g : Got ℕ) → u64_at s st.at ≡ g → Told (counted st g)
      counts h (got c q) e =
          cond-by Told (leb (st.had + c) limit) (λ t o. let z : ◌≡◌ {A = ℕ} 0 1 = cc in absurd (omega arith))
          (λ t o.
          let m : 5 ≡ r.number = cc in
          let p : st.at ≡ r.place = cc in
          TurnFault.many refl (sym m) (five (sym m) ∙ ap (λ (g : Got ℕ). passes st.had (second g)) e) (sym p) e l (leb-false (st.had + c) limit t))
      counts h (bad m p) e = λ o.
          let i : m ≡ r.number = cc in
          let j : p ≡ r.place = cc in
          let b : u64_at s st.at ≡ bad r.number r.place = e ∙ rw (i, j) refl in
          let u = u64-unread s r st.at h says b in
          TurnFault.first refl u.0 u.1

      begun : ltb st.at (length s) ≡ true → Told (counted st (u64_at s st.at))
      begun t = let h = ltb-true st.at (length s) t in counts (omega arith) (u64_at s st.at) refl

  pub boolean-true : Explained (bool_trace s) (boolean_reason s) (BooleanTrue s)
  unfolding boolean_reason bool_trace turns_from
  boolean-true =
      let n = length (bool_trace s).readings in
      explained (bool_trace s) _ (BooleanTrue s)
      (λ number place e.
      named-true (turns s) (turn 0 0 0) refl (length s) (bool_trace s) (λ st. st.at) (λ p. unsigned_count (u64_at s p)) (turn_facts s number place) number place
      (Faulty (turns s) n number place) (Falls (turn_at s) (λ st. st.had) (TurnFault s))
      (fault-named (turns s) (turn 0 0 0) refl (length s) (length s - 0) number place n (omega arith) e refl) e (λ k st. turn-fault _ st refl))
