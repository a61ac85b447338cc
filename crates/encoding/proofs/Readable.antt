-- What was read can be written, over any element: every value of a column's trace is one that the writer takes. Assumes nothing.
use Prim.Native.Nat.{ℕ, zero, suc, ◌+◌, ◌-◌, ◌<◌}
use mathlib.Core.Path.{◌≡◌, refl}
use mathlib.Core.List.{List, [], ◌∷◌, ◌++◌, map}
use mathlib.Core.Bool.{true}
use lib.ListN.{length, get_or, replicate}
use lib.Dec.{ltb}
use Rattle.leb128.specs.Got.{Got, got, bad}
use Rattle.encoding.specs.Walk.{Run, Next, over, on, off, Trace, walk, after}
use Rattle.encoding.specs.Element.{Element}
use Rattle.encoding.specs.Head.{Head, amiss, head_at}
use Rattle.encoding.specs.Column.{Reading, absent, present, value, Spot, spot, repeated, literal_next, literals, run_of, run_at, trace_from, trace}
use Rattle.encoding.proofs.Lists.{cond-by}
use Rattle.encoding.proofs.Elements.{ElementLaws}
use Rattle.encoding.proofs.Back.{ListFits}

module _ {A : Type 0} (E : Element A) where
  -- of readings one after another
  abbrev pub Fits : List (Reading A) → Type 0
  Fits [] = Unit {0}
  Fits (absent ∷ rs) = Fits rs
  Fits (present a place ∷ rs) = (E.fits a ≡ true) × Fits rs

  fits-append : (xs ys : List (Reading A)) → Fits xs → Fits ys → Fits (xs ++ ys)
  fits-append [] ys h k = k
  fits-append (absent ∷ xs) ys h k = fits-append xs ys h k
  fits-append (present a place ∷ xs) ys h k = (h.0, fits-append xs ys h.1 k)

  fits-list : (rs : List (Reading A)) → Fits rs → ListFits E (map value rs)
  unfolding value
  fits-list [] h = tt
  fits-list (absent ∷ rs) h = fits-list rs h
  fits-list (present a place ∷ rs) h = (h.0, fits-list rs h.1)

  fits-absent : (c : ℕ) → Fits (replicate c absent)
  fits-absent zero = tt
  fits-absent (suc c) = fits-absent c

  fits-repeat : (c : ℕ) (a : A) (q : ℕ) → E.fits a ≡ true → Fits (replicate c (present a q))
  fits-repeat zero a q f = tt
  fits-repeat (suc c) a q f = (f, fits-repeat c a q f)

  module _ (L : ElementLaws E) (s : List ℕ) (B : (i : ℕ) → get_or s i 0 < 256) where
    repeated-fits : (n c q p : ℕ) (g : Got A) → E.read s p ≡ g → Fits (repeated n c q g).readings
    unfolding repeated
    repeated-fits n c q p (got a z) e = fits-repeat c a q (L.exact s B p z a e).1
    repeated-fits n c q p (bad number place) e = tt

    literals-fits : (total c q : ℕ) → Fits (literals E s total c q).readings
    unfolding literals literal_next
    literals-fits total zero q = tt
    literals-fits total (suc c) q = go (E.read s q) refl (λ z. literals-fits total c z)
      where
        go : (g : Got A) → E.read s q ≡ g → ((z : ℕ) → Fits (literals E s total c z).readings) → Fits (literal_next q g (λ z. literals E s total c z)).readings
        go (got a z) e k = ((L.exact s B q z a e).1, k z)
        go (bad number place) e k = tt

    opened-fits : (n : ℕ) (h : Head) → Fits (run_of E s n h).readings
    unfolding run_of
    opened-fits n (Head.repeat c q) = repeated-fits n c q q (E.read s q) refl
    opened-fits n (Head.literal c q) = literals-fits (n + c) c q
    opened-fits n (Head.absent c q) = fits-absent c
    opened-fits n (amiss number place) = tt

    run_fits : (st : Spot) → Fits (run_at E s st).readings
    unfolding run_at
    run_fits st =
        cond-by (λ (r : Run (Reading A) Spot). Fits r.readings) (ltb st.at (length s))
        (λ e. opened-fits st.had (head_at s st.at st.had)) (λ e. tt)

    after-fits : (x : Next Spot) (k : Spot → Trace (Reading A)) → ((z : Spot) → Fits (k z).readings) → Fits (after x k).readings
    after-fits over k h = tt
    after-fits (on z) k h = h z
    after-fits (off number place) k h = tt

    walk-fits : (f : ℕ) (st : Spot) → Fits (walk (run_at E s) f st).readings
    unfolding walk
    walk-fits zero st = fits-append (run_at E s st).readings _ (run_fits st) (after-fits (run_at E s st).next _ (λ z. tt))
    walk-fits (suc f) st = fits-append (run_at E s st).readings _ (run_fits st) (after-fits (run_at E s st).next _ (λ z. walk-fits f z))

    pub trace-fits : Fits (trace E s).readings
    unfolding trace trace_from
    trace-fits = walk-fits (length s - 0) (spot 0 0)

    -- the list that a column reads as is one that the writer takes
    pub readable : ListFits E (map value (trace E s).readings)
    readable = fits-list (trace E s).readings trace-fits
