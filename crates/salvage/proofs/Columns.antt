-- What is kept of a run-length column lasts, over any element whose readings stay: of integers and of names. Assumes nothing.
use Prim.Native.Nat.{ℕ, zero, suc, ◌+◌, ◌-◌, ◌<◌}
use mathlib.Core.Path.{◌≡◌, refl, ap}
use mathlib.Core.List.{List, [], ◌∷◌, ◌++◌}
use mathlib.Core.Bool.{Bool, true, false, cond}
use native.Mathlib.Omega.{arith}
use lib.Dec.{ltb}
use lib.ListN.{length, length-append}
use borrow.Author.Tests.{ltb-true, lt-ltb}
use Rattle.leb128.specs.Got.{Got, got, bad}
use Rattle.encoding.specs.Walk.{Next, over, on, off, Run, stop}
use Rattle.encoding.specs.Element.{Element}
use Rattle.encoding.specs.Head.{Head, amiss, head_at}
use Rattle.encoding.specs.Column.{Reading, present, Spot, spot, repeated, ahead, literal_next, literals, run_of, run_at, trace_from, trace}
use Rattle.rle_decoder.specs.Word.{u64_e}
use Rattle.text.specs.Text.{text_e}
use Rattle.salvage.specs.Kept.{Lasting}
use Rattle.salvage.proofs.Staying.{Stays, Staying, StaysHead, head-stays, u64-stays, text-stays}
use Rattle.salvage.proofs.Keeping.{prefix-nil, prefix-behind, Keeps, keeps-lasting, Follows, KeepsRun, walk-keeps}

-- ---- runs

module _ {A : Type 0} where
  repeated-keeps : (had c q : ℕ) (g h : Got A) → Stays g h → KeepsRun (repeated had c q g) (repeated had c q h)
  unfolding repeated
  repeated-keeps had c q (got a next) h k = ap (repeated had c q) k
  repeated-keeps had c q (bad number place) h k = (prefix-nil (repeated had c q h).readings, λ f. ap (repeated had c q) (k f))

  ahead-follows : (x : Reading A) (xs : List (Reading A)) (y : Next Spot) (r : Run (Reading A) Spot) → Follows xs y r → Follows (x ∷ xs) y (ahead x r)
  ahead-follows x xs over r h = prefix-behind (x ∷ []) xs r.readings h
  ahead-follows x xs (on z) r h = ap (ahead x) h
  ahead-follows x xs (off number place) r h = (prefix-behind (x ∷ []) xs r.readings h.0, λ f. ap (ahead x) (h.1 f))

  next-keeps : (q : ℕ) (g h : Got A) (k l : ℕ → Run (Reading A) Spot) → Stays g h → ((z : ℕ) → KeepsRun (k z) (l z))
      → KeepsRun (literal_next q g k) (literal_next q h l)
  unfolding literal_next
  next-keeps q (got a z) h k l e f = rw e (ahead-follows (present a q) (k z).readings (k z).next (l z) (f z))
  next-keeps q (bad number place) h k l e f = (prefix-nil (literal_next q h l).readings, λ g. ap (λ (h : Got A). literal_next q h l) (e g))

module _ {A : Type 0} (E : Element A) (stays : Staying E.read) (s u : List ℕ) where
  literals-keeps : (total c q : ℕ) → KeepsRun (literals E s total c q) (literals E (s ++ u) total c q)
  unfolding literals
  literals-keeps total zero q = refl
  literals-keeps total (suc c) q =
      next-keeps q (E.read s q) (E.read (s ++ u) q) _ _ (stays s u q) (λ z. literals-keeps total c z)

  opened-keeps : (had : ℕ) (g h : Head) → StaysHead g h → KeepsRun (run_of E s had g) (run_of E (s ++ u) had h)
  unfolding run_of
  opened-keeps had (Head.repeat c q) h e = rw e (repeated-keeps had c q (E.read s q) (E.read (s ++ u) q) (stays s u q))
  opened-keeps had (Head.literal c q) h e = rw e (literals-keeps (had + c) c q)
  opened-keeps had (Head.absent c next) h e = rw e refl
  opened-keeps had (amiss number place) h e = (prefix-nil (run_of E (s ++ u) had h).readings, λ f. ap (run_of E (s ++ u) had) (e f))

  pub run-keeps : (st : Spot) → KeepsRun (run_at E s st) (run_at E (s ++ u) st)
  unfolding run_at
  run-keeps st = go (ltb st.at (length s)) refl
    where
      go : (t : Bool) → ltb st.at (length s) ≡ t
          → KeepsRun (cond t (run_of E s st.had (head_at s st.at st.had)) stop)
          (cond (ltb st.at (length (s ++ u))) (run_of E (s ++ u) st.had (head_at (s ++ u) st.at st.had)) stop)
      go false e = prefix-nil _
      go true e =
          let l : st.at < length (s ++ u) = omega (arith, ltb-true st.at (length s) e, length-append s u) in
          rw (lt-ltb st.at (length (s ++ u)) l)
          (opened-keeps st.had (head_at s st.at st.had) (head_at (s ++ u) st.at st.had) (head-stays s u st.at st.had))

  pub trace-keeps : Keeps (trace E s) (trace E (s ++ u))
  unfolding trace trace_from
  trace-keeps = walk-keeps (run_at E s) (run_at E (s ++ u)) run-keeps (length s - 0) (length (s ++ u) - 0) (omega (arith, length-append s u)) (spot 0 0)

-- THE LAW of a run-length column
pub column-lasting : {A : Type 0} (E : Element A) → Staying E.read → Lasting (trace E)
column-lasting E stays = keeps-lasting (trace E) (λ s u. trace-keeps E stays s u)

pub integer-lasting : Lasting (trace u64_e)
integer-lasting = column-lasting u64_e u64-stays

pub name-lasting : Lasting (trace text_e)
name-lasting = column-lasting text_e text-stays
