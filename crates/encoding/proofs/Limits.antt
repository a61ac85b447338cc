-- No column reads as more readings than the limit, a faulty one neither: over any machine whose runs keep to it, and over any element. Assumes nothing.
use Prim.Native.Nat.{ℕ, zero, suc, ◌+◌, ◌≤◌}
use mathlib.Core.Path.{◌≡◌, refl, ap}
use mathlib.Core.List.{List}
use native.Mathlib.Omega.{arith}
use lib.Dec.{ltb}
use lib.ListN.{length, length-replicate}
use Rattle.leb128.specs.Got.{Got, got, bad}
use Rattle.encoding.specs.Limit.{limit}
use Rattle.encoding.specs.Element.{Element}
use Rattle.encoding.specs.Head.{Head, amiss, head_at}
use Rattle.encoding.specs.Column.{Reading, absent, present, Spot, spot, repeated, run_of, run_at, trace}
use Rattle.encoding.specs.Walk.{Run, Next, over, on, off}
use Rattle.encoding.proofs.Columns.{SaneHead, head-known, columns, trace-rest}
use Rattle.encoding.proofs.Elements.{ElementLaws}
use Rattle.encoding.proofs.Lists.{cond-by}
use Rattle.encoding.proofs.Reading.{literals-total, literals-most}
use Rattle.encoding.proofs.Walking.{Machine, rest, run_room}

module _ {R S : Type 0} (M : Machine R S) (capped : (st : S) → M.had st ≤ limit → M.had st + length (M.run st).readings ≤ limit) where
  abbrev Bounded : S → Type 0
  Bounded st = M.had st + length (rest M st).readings ≤ limit

  run-then : (st : S) → M.had st ≤ limit → ((z : S) → (M.run st).next ≡ on z → Bounded z) → Bounded st
  run-then st h k = go (M.run st).next refl
    where
      go : (x : Next S) → (M.run st).next ≡ x → Bounded st
      go over e = omega (arith, run_room M st over e, capped st h)
      go (on z) e = omega (arith, run_room M st (on z) e, M.counts st z e, k z e)
      go (off number place) e = omega (arith, run_room M st (off number place) e, capped st h)

  pub rest-limit : (f : ℕ) (st : S) → M.left st ≤ f → M.had st ≤ limit → Bounded st
  rest-limit zero st l h = run-then st h (λ z e. absurd (omega (arith, M.falls st z e)))
  rest-limit (suc f) st l h = run-then st h (λ z e. rest-limit f z (omega (arith, M.falls st z e)) (M.capped st z e))

module _ {A : Type 0} (E : Element A) (s : List ℕ) where
  repeated-limit : (n c q : ℕ) (g : Got A) → n + c ≤ limit → n + length (repeated n c q g).readings ≤ limit
  unfolding repeated
  repeated-limit n c q (got a z) h = omega (arith, length-replicate c (present a q))
  repeated-limit n c q (bad number place) h = omega arith

  opened-limit : (p n : ℕ) (h : Head) → SaneHead (length s) p n h → n ≤ limit → n + length (run_of E s n h).readings ≤ limit
  unfolding run_of
  opened-limit p n (Head.repeat c q) h l = repeated-limit n c q (E.read s q) h.2
  opened-limit p n (Head.literal c q) h l = omega (arith, h.2, ap length (literals-total E s (n + c) c q), literals-most E s c q)
  opened-limit p n (Head.absent c q) h l = omega (arith, h.2, length-replicate {A = Reading A} c absent)
  opened-limit p n (amiss number place) h l = omega arith

  pub run-limit : (st : Spot) → st.had ≤ limit → st.had + length (run_at E s st).readings ≤ limit
  unfolding run_at
  run-limit st l =
      cond-by (λ (r : Run (Reading A) Spot). st.had + length r.readings ≤ limit) (ltb st.at (length s))
      (λ e. opened-limit st.at st.had (head_at s st.at st.had) (head-known s st.at st.had (head_at s st.at st.had) refl) l) (λ e. omega arith)

pub trace-limit : {A : Type 0} (E : Element A) (L : ElementLaws E) (s : List ℕ) → length (trace E s).readings ≤ limit
trace-limit E L s =
    rw (trace-rest E L s) (let k = rest-limit (columns E L s) (run-limit E s) (length s) (spot 0 0) (omega arith) (omega arith) in omega (arith, k))
