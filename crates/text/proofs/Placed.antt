-- What holds of every value that is read at a place holds of every reading of a column's trace, over any element (`Readable` of `encoding` is
-- the case of `fits`). Assumes nothing.
use Prim.Native.Nat.{ℕ, zero, suc, ◌+◌, ◌-◌}
use mathlib.Core.Path.{◌≡◌, refl}
use mathlib.Core.List.{List, [], ◌∷◌, ◌++◌}
use lib.ListN.{length, replicate}
use lib.Dec.{ltb}
use Rattle.leb128.specs.Got.{Got, got, bad}
use Rattle.encoding.specs.Walk.{Run, Next, over, on, off, Trace, walk, after}
use Rattle.encoding.specs.Element.{Element}
use Rattle.encoding.specs.Head.{Head, amiss, head_at}
use Rattle.encoding.specs.Column.{Reading, absent, present, Spot, spot, repeated, literal_next, literals, run_of, run_at, trace_from, trace}
use Rattle.encoding.proofs.Lists.{cond-by}

module _ {A : Type 0} (P : A → ℕ → Type 0) where
  -- of readings one after another
  abbrev pub Each : List (Reading A) → Type 0
  Each [] = Unit {0}
  Each (absent ∷ rs) = Each rs
  Each (present a place ∷ rs) = P a place × Each rs

  each_append : (xs ys : List (Reading A)) → Each xs → Each ys → Each (xs ++ ys)
  each_append [] ys h k = k
  each_append (absent ∷ xs) ys h k = each_append xs ys h k
  each_append (present a place ∷ xs) ys h k = (h.0, each_append xs ys h.1 k)

  each-absent : (c : ℕ) → Each (replicate c absent)
  each-absent zero = tt
  each-absent (suc c) = each-absent c

  each_repeat : (c : ℕ) (a : A) (q : ℕ) → P a q → Each (replicate c (present a q))
  each_repeat zero a q f = tt
  each_repeat (suc c) a q f = (f, each_repeat c a q f)

  module _ (E : Element A) (s : List ℕ) (K : (p q : ℕ) (a : A) → E.read s p ≡ got a q → P a p) where
    repeated-each : (n c q : ℕ) (g : Got A) → E.read s q ≡ g → Each (repeated n c q g).readings
    unfolding repeated
    repeated-each n c q (got a z) e = each_repeat c a q (K q z a e)
    repeated-each n c q (bad number place) e = tt

    literals-each : (total c q : ℕ) → Each (literals E s total c q).readings
    unfolding literals literal_next
    literals-each total zero q = tt
    literals-each total (suc c) q = go (E.read s q) refl (λ z. literals-each total c z)
      where
        go : (g : Got A) → E.read s q ≡ g → ((z : ℕ) → Each (literals E s total c z).readings) → Each (literal_next q g (λ z. literals E s total c z)).readings
        go (got a z) e k = (K q z a e, k z)
        go (bad number place) e k = tt

    run_of-each : (n : ℕ) (h : Head) → Each (run_of E s n h).readings
    unfolding run_of
    run_of-each n (Head.repeat c q) = repeated-each n c q (E.read s q) refl
    run_of-each n (Head.literal c q) = literals-each (n + c) c q
    run_of-each n (Head.absent c q) = each-absent c
    run_of-each n (amiss number place) = tt

    run-each : (st : Spot) → Each (run_at E s st).readings
    unfolding run_at
    run-each st =
        cond-by (λ (r : Run (Reading A) Spot). Each r.readings) (ltb st.at (length s))
        (λ e. run_of-each st.had (head_at s st.at st.had)) (λ e. tt)

    after-each : (x : Next Spot) (k : Spot → Trace (Reading A)) → ((z : Spot) → Each (k z).readings) → Each (after x k).readings
    after-each over k h = tt
    after-each (on z) k h = h z
    after-each (off number place) k h = tt

    walk-each : (f : ℕ) (st : Spot) → Each (walk (run_at E s) f st).readings
    unfolding walk
    walk-each zero st = each_append (run_at E s st).readings _ (run-each st) (after-each (run_at E s st).next _ (λ z. tt))
    walk-each (suc f) st = each_append (run_at E s st).readings _ (run-each st) (after-each (run_at E s st).next _ (λ z. walk-each f z))

    pub trace-each : Each (trace E s).readings
    unfolding trace trace_from
    trace-each = walk-each (length s - 0) (spot 0 0)
