-- Laws of how many readings of a run stand before its fault, over any element: of literal values one by one, and of a run one law for each way that it can
-- begin. Assumes nothing.
use Prim.Native.Nat.{ℕ, zero, suc, ◌+◌, ◌-◌, ◌≤◌, ◌<◌}
use mathlib.Core.Path.{◌≡◌, refl, sym, ◌∙◌, ap}
use mathlib.Core.List.{List, ◌∷◌}
use native.Mathlib.Omega.{arith}
use lib.ListN.{length, length-replicate}
use Rattle.leb128.specs.Got.{Got, got, bad}
use Rattle.encoding.specs.Limit.{limit}
use Rattle.encoding.specs.Element.{Element}
use Rattle.encoding.specs.Head.{Head, amiss, head_at}
use Rattle.encoding.specs.Column.{Reading, absent, present, spot, literal_next, literals, run_of, run_at}
use Rattle.encoding.proofs.Walking.{readings-eq}
use Rattle.encoding.proofs.Columns.{head-known, run-head, repeated-got, repeated-bad, literals-on, literals-off, literals-none}

module _ {A : Type 0} (E : Element A) (s : List ℕ) where
  -- ---- literal values

  -- how many of c from q on can be read, up to the first that cannot
  abbrev pub literals_read : ℕ → ℕ → ℕ
  literals_read c q = length (literals E s 0 c q).readings

  -- whatever the number of readings behind them is said to be
  pub literals-total : (total c q : ℕ) → (literals E s total c q).readings ≡ (literals E s 0 c q).readings
  unfolding literals literal_next
  literals-total total zero q = refl
  literals-total total (suc c) q = go (E.read s q) (λ z. literals-total total c z)
    where
      go : (g : Got A) → ((z : ℕ) → (literals E s total c z).readings ≡ (literals E s 0 c z).readings)
          → (literal_next q g (λ z. literals E s total c z)).readings ≡ (literal_next q g (λ z. literals E s 0 c z)).readings
      go (got a z) k = ap (λ (l : List (Reading A)). present a q ∷ l) (k z)
      go (bad number place) k = refl

  pub literals-most : (c q : ℕ) → literals_read c q ≤ c
  unfolding literals literal_next
  literals-most zero q = omega arith
  literals-most (suc c) q = go (E.read s q) (λ z. literals-most c z)
    where
      go : (g : Got A) → ((z : ℕ) → literals_read c z ≤ c) → length (literal_next q g (λ z. literals E s 0 c z)).readings ≤ suc c
      go (got a z) k = omega (arith, k z)
      go (bad number place) k = omega arith

  -- n of c values from q on were read, and the next stands at p
  abbrev pub ReadSoFar : ℕ → ℕ → ℕ → ℕ → Type 0
  ReadSoFar c q n p = (n ≤ c) × (literals_read c q ≡ n + literals_read (c - n) p)

  pub so-far-start : (c q : ℕ) → ReadSoFar c q 0 q
  so-far-start c q =
      let e : c ≡ c - 0 = omega arith in
      let h : literals_read c q ≡ literals_read (c - 0) q = ap (λ (k : ℕ). literals_read k q) e in
      (omega arith, omega arith)

  module _ (c q n p : ℕ) (h : ReadSoFar c q n p) where
    pub so-far-on : (z : ℕ) (a : A) → n < c → E.read s p ≡ got a z → ReadSoFar c q (n + 1) z
    so-far-on z a l e =
        let i = h.1 in
        let k : c - n - 1 ≡ c - (n + 1) = omega arith in
        let f : literals_read (c - n) p ≡ suc (literals_read (c - n - 1) z) = ap length (readings-eq (literals-on E s 0 (c - n) p z a (omega arith) e)) in
        let g : literals_read (c - n - 1) z ≡ literals_read (c - (n + 1)) z = ap (λ (k : ℕ). literals_read k z) k in
        (omega arith, omega arith)

    pub so-far-off : (number place : ℕ) → n < c → E.read s p ≡ bad number place → n ≡ literals_read c q
    so-far-off number place l e =
        let i = h.1 in
        let f : literals_read (c - n) p ≡ 0 = ap length (readings-eq (literals-off E s 0 (c - n) p number place (omega arith) e)) in
        omega arith

    pub so-far-over : c ≤ n → n ≡ literals_read c q
    so-far-over l =
        let i = h.1 in
        let f : literals_read (c - n) p ≡ 0 = ap length (readings-eq (literals-none E s 0 (c - n) p (omega arith))) in
        omega arith

  -- ---- a run, by how it begins: how many of its readings stand before its fault, and that they keep within the limit

  module _ (p had : ℕ) (l : p < length s) (m : had ≤ limit) where
    abbrev pub Reads : ℕ → Type 0
    Reads n = (n ≡ length (run_at E s (spot p had)).readings) × (had + n ≤ limit)

    pub reads-repeat : (c q z : ℕ) (a : A) → head_at s p had ≡ Head.repeat c q → E.read s q ≡ got a z → Reads c
    unfolding run_of
    reads-repeat c q z a h e =
        let r = readings-eq (run-head E s p had (Head.repeat c q) l h ∙ repeated-got had c q z a (E.read s q) e) in
        (sym (ap length r ∙ length-replicate c (present a q)), (head-known s p had (Head.repeat c q) h).2)

    pub reads-unreadable : (c q number place : ℕ) → head_at s p had ≡ Head.repeat c q → E.read s q ≡ bad number place → Reads 0
    unfolding run_of
    reads-unreadable c q number place h e =
        let r = readings-eq (run-head E s p had (Head.repeat c q) l h ∙ repeated-bad had c q number place (E.read s q) e) in
        (sym (ap length r), omega arith)

    pub reads-literal : (c q n : ℕ) → head_at s p had ≡ Head.literal c q → n ≡ literals_read c q → Reads n
    unfolding run_of
    reads-literal c q n h e =
        let r = readings-eq (run-head E s p had (Head.literal c q) l h) ∙ literals-total (had + c) c q in
        let k = (head-known s p had (Head.literal c q) h).2 in
        (e ∙ sym (ap length r), omega (arith, literals-most c q))

    pub reads-absent : (c z : ℕ) → head_at s p had ≡ Head.absent c z → Reads c
    unfolding run_of
    reads-absent c z h =
        let r = readings-eq (run-head E s p had (Head.absent c z) l h) in
        (sym (ap length r ∙ length-replicate {A = Reading A} c absent), (head-known s p had (Head.absent c z) h).2)

    pub reads-amiss : (number place : ℕ) → head_at s p had ≡ amiss number place → Reads 0
    unfolding run_of
    reads-amiss number place h =
        let r = readings-eq (run-head E s p had (amiss number place) l h) in
        (sym (ap length r), omega arith)
