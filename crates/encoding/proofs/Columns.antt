-- Laws of a run-length column over the element: each run takes a byte at least, stays within, and counts its readings; so it is a machine
-- to be walked (`columns`). And a run by how it begins: what the code's branches cite. Assumes nothing.
use Prim.Native.Nat.{ℕ, zero, suc, ◌+◌, ◌-◌, ◌≤◌, ◌<◌}
use mathlib.Core.Path.{◌≡◌, refl, sym, ◌∙◌, ap, subst}
use mathlib.Core.List.{List, []}
use mathlib.Core.Bool.{Bool, cond}
use native.Mathlib.Omega.{arith}
use lib.ListN.{length, replicate, length-replicate}
use lib.IntN.{ℤ, pos, negsuc}
use lib.Dec.{ltb, leb, eqb}
use borrow.Author.Tests.{leb-true, lt-ltb, le-ltb}
use Rattle.leb128.specs.Got.{Got, got, bad}
use Rattle.leb128.specs.Read.{u64_at, i64_at}
use Rattle.leb128.proofs.Laws.{u64-next, i64-next}
use Rattle.encoding.specs.Limit.{limit}
use Rattle.encoding.specs.Walk.{Run, Next, over, on, off, stop, whole, cut, onward}
use Rattle.encoding.specs.Element.{Element}
use Rattle.encoding.specs.Head.{Head, amiss, judged, absent_head, begun, head_at}
use Rattle.encoding.specs.Column.{Reading, present, Spot, spot, repeated, ahead, literal_next, literals, run_of, run_at, trace_from, trace}
use Rattle.encoding.proofs.Lists.{cond-by}
use Rattle.encoding.proofs.Elements.{ElementLaws}
use Rattle.encoding.proofs.Walking.{Machine, rest, rest-is}

-- a value that is read takes a byte at least, and lies within
abbrev Near : {A : Type 0} → ℕ → ℕ → Got A → Type 0
Near len p (got a q) = (p < q) × (q ≤ len)
Near len p (bad number place) = Unit {0}

near : {A : Type 0} (read : List ℕ → ℕ → Got A) (s : List ℕ) (p : ℕ) → ((q : ℕ) (a : A) → read s p ≡ got a q → (p < q) × (q ≤ length s)) → Near (length s) p (read s p)
near read s p h = go (read s p) refl
  where
    go : (g : Got _) → read s p ≡ g → Near (length s) p g
    go (got a q) e = h q a e
    go (bad number place) e = tt

-- what follows a run: it goes on behind p, stays within len, and has counted m readings
abbrev SaneNext : ℕ → ℕ → ℕ → Next Spot → Type 0
SaneNext len p m over = Unit {0}
SaneNext len p m (on z) = (p < z.at) × (z.at ≤ len) × (z.had ≡ m) × (z.had ≤ limit)
SaneNext len p m (off number place) = Unit {0}

abbrev Sane : {R : Type 0} → ℕ → ℕ → ℕ → Run R Spot → Type 0
Sane len p n r = SaneNext len p (n + length r.readings) r.next

-- how a run begins: behind p, within len, within the limit
abbrev pub SaneHead : ℕ → ℕ → ℕ → Head → Type 0
SaneHead len p n (Head.repeat c q) = (p < q) × (q ≤ len) × (n + c ≤ limit)
SaneHead len p n (Head.literal c q) = (p < q) × (q ≤ len) × (n + c ≤ limit)
SaneHead len p n (Head.absent c q) = (p < q) × (q ≤ len) × (n + c ≤ limit)
SaneHead len p n (amiss number place) = Unit {0}

sane-judged : (len p n c place : ℕ) (h : Head) → (n + c ≤ limit → SaneHead len p n h) → SaneHead len p n (judged n c place h)
sane-judged len p n c place h k = cond-by (SaneHead len p n) (leb (n + c) limit) (λ e. k (leb-true (n + c) limit e)) (λ e. tt)

sane-absent : (len p n q : ℕ) (g : Got ℕ) → p < q → Near len q g → SaneHead len p n (absent_head n q g)
unfolding absent_head
sane-absent len p n q (got c z) l h = sane-judged len p n c q (Head.absent c z) (λ m. (omega arith, h.1, m))
sane-absent len p n q (bad number place) l h = tt

sane-begun : (s : List ℕ) (p n : ℕ) (g : Got ℤ) → Near (length s) p g → SaneHead (length s) p n (begun s p n g)
unfolding begun
sane-begun s p n (got (pos c) q) h =
    cond-by (SaneHead (length s) p n) (eqb c 0)
    (λ e. sane-absent (length s) p n q (u64_at s q) h.0 (near u64_at s q (λ z v f. u64-next s q v z f)))
    (λ e. sane-judged (length s) p n c p (Head.repeat c q) (λ m. (h.0, h.1, m)))
sane-begun s p n (got (negsuc c) q) h = sane-judged (length s) p n (suc c) p (Head.literal (suc c) q) (λ m. (h.0, h.1, m))
sane-begun s p n (bad number place) h = tt

head-sane : (s : List ℕ) (p n : ℕ) → SaneHead (length s) p n (head_at s p n)
unfolding head_at
head-sane s p n = sane-begun s p n (i64_at s p) (near i64_at s p (λ q x e. i64-next s p q x e))

pub head-known : (s : List ℕ) (p n : ℕ) (h : Head) → head_at s p n ≡ h → SaneHead (length s) p n h
head-known s p n h e = subst (SaneHead (length s) p n) e (head-sane s p n)

module _ {A : Type 0} (E : Element A) (L : ElementLaws E) (s : List ℕ) where
  read-near : (p : ℕ) → Near (length s) p (E.read s p)
  read-near p = near E.read s p (λ q a e. (L.ahead s p q a e, L.within s p q a e))

  sane-repeated : (p n c q : ℕ) (g : Got A) → p < q → n + c ≤ limit → Near (length s) q g → Sane (length s) p n (repeated n c q g)
  unfolding repeated
  sane-repeated p n c q (got a z) l m h = (omega arith, h.1, ap (λ (k : ℕ). n + k) (sym (length-replicate c _)), m)
  sane-repeated p n c q (bad number place) l m h = tt

  sane-ahead : (p q n : ℕ) (x : Reading A) (r : Run (Reading A) Spot) → p < q → Sane (length s) q (suc n) r → Sane (length s) p n (ahead x r)
  sane-ahead p q n x r l h = go r.next h
    where
      go : (y : Next Spot) → SaneNext (length s) q (suc n + length r.readings) y → SaneNext (length s) p (n + suc (length r.readings)) y
      go over h = tt
      go (on z) h = (omega arith, h.1, h.2 ∙ omega arith, h.3)
      go (off number place) h = tt

  sane-literals : (total p n c q : ℕ) → p < q → q ≤ length s → n + c ≡ total → total ≤ limit → Sane (length s) p n (literals E s total c q)
  unfolding literals literal_next
  sane-literals total p n zero q l w e m = (l, w, omega arith, m)
  sane-literals total p n (suc c) q l w e m =
      go (E.read s q) (read-near q) (λ z l' w'. sane-literals total q (suc n) c z l' w' (omega arith) m)
    where
      go : (g : Got A) → Near (length s) q g
          → ((z : ℕ) → q < z → z ≤ length s → Sane (length s) q (suc n) (literals E s total c z))
          → Sane (length s) p n (literal_next q g (λ z. literals E s total c z))
      go (got a z) h k = sane-ahead p q n (present a q) (literals E s total c z) l (k z h.0 h.1)
      go (bad number place) h k = tt

  sane-opened : (p n : ℕ) (h : Head) → SaneHead (length s) p n h → Sane (length s) p n (run_of E s n h)
  unfolding run_of
  sane-opened p n (Head.repeat c q) h = sane-repeated p n c q (E.read s q) h.0 h.2 (read-near q)
  sane-opened p n (Head.literal c q) h = sane-literals (n + c) p n c q h.0 h.1 refl h.2
  sane-opened p n (Head.absent c q) h = (h.0, h.1, ap (λ (k : ℕ). n + k) (sym (length-replicate c _)), h.2)
  sane-opened p n (amiss number place) h = tt

  sane-run : (st : Spot) → Sane (length s) st.at st.had (run_at E s st)
  unfolding run_at
  sane-run st =
      cond-by (Sane (length s) st.at st.had) (ltb st.at (length s))
      (λ e. sane-opened st.at st.had (head_at s st.at st.had) (head-sane s st.at st.had)) (λ e. tt)

  pub on-sane : (st z : Spot) → (run_at E s st).next ≡ on z → SaneNext (length s) st.at (st.had + length (run_at E s st).readings) (on z)
  on-sane st z e = subst (SaneNext (length s) st.at (st.had + length (run_at E s st).readings)) e (sane-run st)

  -- THE MACHINE of a run-length column
  abbrev pub columns : Machine (Reading A) Spot
  columns =
      record {
        run = run_at E s;
        left = λ st. length s - st.at;
        had = λ st. st.had;
        falls = λ st z e. let h = on-sane st z e in omega (arith, h.0, h.1);
        counts = λ st z e. (on-sane st z e).2;
        capped = λ st z e. (on-sane st z e).3;
      }

  pub trace-rest : trace E s ≡ rest columns (spot 0 0)
  unfolding trace trace_from rest
  trace-rest = refl

  -- what comes from a state on is the run there, and then what comes behind it
  pub trace-on : (st : Spot) → trace_from E s st ≡ onward (run_at E s st) (λ z. trace_from E s z)
  unfolding trace_from rest
  trace-on st = rest-is columns st (run_at E s st).next refl

-- ---- a run by how it begins

module _ {A : Type 0} (E : Element A) (s : List ℕ) (p n : ℕ) where
  pub run-head : (h : Head) → p < length s → head_at s p n ≡ h → run_at E s (spot p n) ≡ run_of E s n h
  unfolding run_at
  run-head h l e =
      ap (λ (t : Bool). cond t (run_of E s n (head_at s p n)) stop) (lt-ltb p (length s) l) ∙ ap (λ (h : Head). run_of E s n h) e

  pub run_end : length s ≤ p → run_at E s (spot p n) ≡ stop
  unfolding run_at
  run_end l = ap (λ (t : Bool). cond t (run_of E s n (head_at s p n)) stop) (le-ltb p (length s) l)

-- a repeated run, by its value
pub repeated-got : {A : Type 0} (n c q z : ℕ) (a : A) (g : Got A) → g ≡ got a z → repeated n c q g ≡ whole (replicate c (present a q)) (spot z (n + c))
unfolding repeated
repeated-got n c q z a g e = ap (λ g. repeated n c q g) e

pub repeated-bad : {A : Type 0} (n c q number place : ℕ) (g : Got A) → g ≡ bad number place → repeated n c q g ≡ cut number place
unfolding repeated
repeated-bad n c q number place g e = ap (λ g. repeated n c q g) e

-- literal values, one by one
module _ {A : Type 0} (E : Element A) (s : List ℕ) (total : ℕ) where
  literals-pos : (c q : ℕ) → 0 < c → literals E s total c q ≡ literal_next q (E.read s q) (λ z. literals E s total (c - 1) z)
  unfolding literals
  literals-pos zero q l = absurd (omega arith)
  literals-pos (suc c) q l =
      let e : c ≡ suc c - 1 = omega arith in
      ap (λ (k : ℕ). literal_next q (E.read s q) (λ z. literals E s total k z)) e

  pub literals-none : (c q : ℕ) → c ≤ 0 → literals E s total c q ≡ whole [] (spot q total)
  unfolding literals
  literals-none zero q l = refl
  literals-none (suc c) q l = absurd (omega arith)

  -- a value was read: it comes first, and the run goes on behind it
  pub literals-on : (c q z : ℕ) (a : A) → 0 < c → E.read s q ≡ got a z → literals E s total c q ≡ ahead (present a q) (literals E s total (c - 1) z)
  unfolding literal_next
  literals-on c q z a l e = literals-pos c q l ∙ ap (λ (g : Got A). literal_next q g (λ z. literals E s total (c - 1) z)) e

  pub literals-off : (c q number place : ℕ) → 0 < c → E.read s q ≡ bad number place → literals E s total c q ≡ cut number place
  unfolding literal_next
  literals-off c q number place l e = literals-pos c q l ∙ ap (λ (g : Got A). literal_next q g (λ z. literals E s total (c - 1) z)) e
