-- A CUT BLOCK IS REFUSED, wherever it was cut: with 14 behind the table, with 21 or 1 within it. Assumes nothing.
use Prim.Native.Nat.{ℕ, zero, suc, ◌-◌, ◌≤◌, ◌<◌}
use mathlib.Core.Path.{◌≡◌, refl, sym, ◌∙◌, ap, subst}
use mathlib.Core.List.{List, ◌∷◌, ◌++◌}
use mathlib.Core.Bool.{false}
use native.Mathlib.Decide.{dec_lt}
use native.Mathlib.Omega.{arith}
use lib.Dec.{ltb}
use lib.ListN.{length, take, drop, take-append-drop}
use lib.Seq.{length-take-le}
use borrow.Author.Tests.{lt-ltb}
use Rattle.leb128.specs.Got.{Got, got, bad}
use Rattle.leb128.specs.Read.{u32_at, u64_at}
use Rattle.leb128.proofs.Cut.{u64-cut, u32-is, u32-cut}
use Rattle.leb128.proofs.Laws.{u64-next}
use Rattle.leb128.proofs.Refusals.{u64-none}
use Rattle.raw_column.specs.Table.{Tab, tab, faulty, with_number, with_row, rows_at, sum, judged, parse}
use Rattle.raw_column.specs.Rows.{opened}
use Rattle.raw_column.proofs.Opening.{row-bad, row-bad-len, row-good, open-good}
use Rattle.block_frame.proofs.Tables.{accepted, Ended, ended, table-fills}
use Rattle.cut_block.specs.Cut.{RowNumber, TableNumber, Broken, due, within, Refused}
use Rattle.cut_block.specs.Cut as cut

-- ---- rows that were cut

broken-row : (s : List ℕ) (k : ℕ) (P Q : ℕ → Type 0) (spec len : ℕ) (t : Tab) → ((p : ℕ) → P p → Q p) → Broken s k P t → Broken s k Q (with_row spec len t)
broken-row s k P Q spec len _ f (due h) = due (f k h)
broken-row s k P Q spec len _ f (within p v q h e a b) = within p v q (f p h) e a b

-- n rows at p of the bytes s, behind which u follow, with which they are so many and end at next
pub record CutRows (s u : List ℕ) (n p : ℕ) (specs lens : List ℕ) (next : ℕ) : Type 0 where
  pub onward : p ≤ next
  pub whole : next ≤ length s → rows_at n s p ≡ tab specs lens next
  pub broken : length s < next → Broken (s ++ u) (length s) (RowNumber (s ++ u) n p) (rows_at n s p)

module _ (s u : List ℕ) where
  u32-none : (p : ℕ) → length s ≤ p → u32_at s p ≡ bad 21 (length s)
  unfolding u32_at
  u32-none p l = rw (u64-none s p l) refl

  module _ (n p spec q len r : ℕ) (within-s : p ≤ length s) (e : u32_at (s ++ u) p ≡ got spec q) (f : u64_at (s ++ u) q ≡ got len r)
      (specs lens : List ℕ) (next : ℕ) (rest : r ≤ length s → CutRows s u n r specs lens next) (on : r ≤ next) where
    advance : (p < q) × (q < r)
    advance =
        let a = u64-next (s ++ u) p spec q (u32-is (s ++ u) p spec q e).0 in
        let b = u64-next (s ++ u) q len r f in
        (a.0, b.0)

    row-whole : next ≤ length s → rows_at (suc n) s p ≡ tab (spec ∷ specs) (len ∷ lens) next
    row-whole l =
        let a = advance in
        let x : q ≤ length s = omega (arith, a.1) in
        let y : r ≤ length s = omega arith in
        row-good s p ((u32-cut s u p spec q e).0 x) ((u64-cut s u q len r f).0 y) n ∙ ap (with_row spec len) ((rest y).whole l)

    row-broken : length s < next → Broken (s ++ u) (length s) (RowNumber (s ++ u) (suc n) p) (rows_at (suc n) s p)
    row-broken l = elim (dec_lt p (length s)) [
      | no a ↦
          let z : p ≡ length s = omega arith in
          let g : rows_at (suc n) s p ≡ faulty 21 (length s) = row-bad s p (u32-none p (omega arith)) n in
          let w : RowNumber (s ++ u) (suc n) p (length s) = subst (RowNumber (s ++ u) (suc n) p) z (cut.spec n p) in
          subst (Broken (s ++ u) (length s) (RowNumber (s ++ u) (suc n) p)) (sym g) (due w)
      | yes a ↦ elim (dec_lt (length s) q) [
        | yes b ↦
            let g : rows_at (suc n) s p ≡ faulty 1 p = row-bad s p ((u32-cut s u p spec q e).1 a b) n in
            subst (Broken (s ++ u) (length s) (RowNumber (s ++ u) (suc n) p)) (sym g)
            (within p spec q (cut.spec n p) (u32-is (s ++ u) p spec q e).0 a b)
        | no b ↦
            let y : q ≤ length s = omega arith in
            let h : u32_at s p ≡ got spec q = (u32-cut s u p spec q e).0 y in
            elim (dec_lt q (length s)) [
              | no c ↦
                  let z : q ≡ length s = omega arith in
                  let g : rows_at (suc n) s p ≡ faulty 21 (length s) = row-bad-len s p h (u64-none s q (omega arith)) n in
                  let w : RowNumber (s ++ u) (suc n) p (length s) = subst (RowNumber (s ++ u) (suc n) p) z (cut.len n p spec q e) in
                  subst (Broken (s ++ u) (length s) (RowNumber (s ++ u) (suc n) p)) (sym g) (due w)
              | yes c ↦ elim (dec_lt (length s) r) [
                | yes d ↦
                    let g : rows_at (suc n) s p ≡ faulty 1 q = row-bad-len s p h ((u64-cut s u q len r f).1 c d) n in
                    subst (Broken (s ++ u) (length s) (RowNumber (s ++ u) (suc n) p)) (sym g) (within q len r (cut.len n p spec q e) f c d)
                | no d ↦
                    let x : r ≤ length s = omega arith in
                    let g : rows_at (suc n) s p ≡ with_row spec len (rows_at n s r) = row-good s p h ((u64-cut s u q len r f).0 x) n in
                    subst (Broken (s ++ u) (length s) (RowNumber (s ++ u) (suc n) p)) (sym g)
                    (broken-row (s ++ u) (length s) (RowNumber (s ++ u) n r) (RowNumber (s ++ u) (suc n) p) spec len (rows_at n s r)
                    (λ k w. cut.later n p spec q len r k e f w) ((rest x).broken l))
              ]
            ]
      ]
    ]

    row_cut : CutRows s u (suc n) p (spec ∷ specs) (len ∷ lens) next
    row_cut = let a = advance in record { onward = omega (arith, a.0, a.1); whole = row-whole; broken = row-broken }

module _ (s u : List ℕ) where
  -- one row less
  split-row : (n p spec q len r : ℕ) → p ≤ length s → u32_at (s ++ u) p ≡ got spec q → u64_at (s ++ u) q ≡ got len r
      → ((specs lens : List ℕ) (next : ℕ) → r ≤ length s → rows_at n (s ++ u) r ≡ tab specs lens next → CutRows s u n r specs lens next)
      → (t : Tab) → rows_at n (s ++ u) r ≡ t → (specs lens : List ℕ) (next : ℕ) → with_row spec len t ≡ tab specs lens next
      → CutRows s u (suc n) p specs lens next
  split-row n p spec q len r l e f ih (faulty number place) g specs lens next h = let z : ◌≡◌ {A = ℕ} 0 1 = cc in absurd (omega arith)
  split-row n p spec q len r l e f ih (tab specs' lens' next') g specs lens next h =
      let a : specs ≡ spec ∷ specs' = cc in
      let b : lens ≡ len ∷ lens' = cc in
      let c : next ≡ next' = cc in
      let o = subst (Ended n r) g (ended n (s ++ u) r) in
      rw (a, b, c) (row_cut s u n p spec q len r l e f specs' lens' next' (λ k. ih specs' lens' next' k g) o.1)

  abbrev Fewer : ℕ → Type 0
  Fewer n = (r : ℕ) (specs lens : List ℕ) (next : ℕ) → r ≤ length s → rows_at n (s ++ u) r ≡ tab specs lens next → CutRows s u n r specs lens next

  pub rows_cut : (n p : ℕ) (specs lens : List ℕ) (next : ℕ) → p ≤ length s → rows_at n (s ++ u) p ≡ tab specs lens next → CutRows s u n p specs lens next
  unfolding rows_at
  rows_cut zero p specs lens next l e =
      let c : p ≡ next = cc in
      record { onward = omega arith; whole = λ k. e; broken = λ k. absurd (omega arith) }
  rows_cut (suc n) p specs lens next l e = first (u32_at (s ++ u) p) refl e (λ r specs' lens' next' k g. rows_cut n r specs' lens' next' k g)
    where
      second : (spec q : ℕ) → u32_at (s ++ u) p ≡ got spec q → (g : Got ℕ) → u64_at (s ++ u) q ≡ g
          → with_number g (λ len r. with_row spec len (rows_at n (s ++ u) r)) ≡ tab specs lens next → Fewer n → CutRows s u (suc n) p specs lens next
      second spec q a (bad number place) b e ih = let z : ◌≡◌ {A = ℕ} 0 1 = cc in absurd (omega arith)
      second spec q a (got len r) b e ih = split-row n p spec q len r l a b (ih r) (rows_at n (s ++ u) r) refl specs lens next e

      first : (g : Got ℕ) → u32_at (s ++ u) p ≡ g
          → with_number g (λ spec q. with_number (u64_at (s ++ u) q) (λ len r. with_row spec len (rows_at n (s ++ u) r))) ≡ tab specs lens next
          → Fewer n → CutRows s u (suc n) p specs lens next
      first (bad number place) a e ih = let z : ◌≡◌ {A = ℕ} 0 1 = cc in absurd (omega arith)
      first (got spec q) a e ih = second spec q a (u64_at (s ++ u) q) refl e ih

-- ---- a whole block that was cut

broken-all : (s : List ℕ) (k : ℕ) (P Q : ℕ → Type 0) (size : ℕ) (t : Tab) → ((p : ℕ) → P p → Q p) → Broken s k P t → Broken s k Q (judged size t)
broken-all s k P Q size _ f (due h) = due (f k h)
broken-all s k P Q size _ f (within p v q h e a b) = within p v q (f p h) e a b

module _ (s u specs lens : List ℕ) (next : ℕ) (e : parse (s ++ u) ≡ tab specs lens next) where
  -- the table is whole
  parse-count : (n q : ℕ) → u64_at s 0 ≡ got n q → ltb 64 n ≡ false → parse s ≡ judged (length s) (rows_at n s q)
  unfolding parse
  parse-count n q c f = rw (c, f) refl

  parse-bad : (number place : ℕ) → u64_at s 0 ≡ bad number place → parse s ≡ faulty number place
  unfolding parse
  parse-bad number place c = rw c refl

  -- the rows are those of the block
  pub rows-there : next ≤ length s → (u64_at s 0 ≡ got (accepted (s ++ u) specs lens next e).count (accepted (s ++ u) specs lens next e).first)
      × (rows_at (accepted (s ++ u) specs lens next e).count s (accepted (s ++ u) specs lens next e).first ≡ tab specs lens next)
  rows-there l =
      let r = accepted (s ++ u) specs lens next e in
      let o = subst (Ended r.count r.first) r.rows (ended r.count (s ++ u) r.first) in
      let k : r.first ≤ length s = omega (arith, o.1) in
      ((u64-cut s u 0 r.count r.first r.counted).0 k, (rows_cut s u r.count r.first specs lens next k r.rows).whole l)

  cut_short : length s < length (s ++ u) → next ≤ length s → parse s ≡ faulty 14 0
  cut_short m l =
      let r = accepted (s ++ u) specs lens next e in
      let w = rows-there l in
      let f = (table-fills (s ++ u) specs lens next e).whole in
      let g : length s - next < sum lens = omega (arith, f) in
      parse-count r.count r.first w.0 r.few ∙ ap (judged (length s)) w.1 ∙ rw (r.ordered, r.bare, lt-ltb (length s - next) (sum lens) g) refl

  cut-broken : length s < next → Broken (s ++ u) (length s) (TableNumber (s ++ u)) (parse s)
  cut-broken l =
      let r = accepted (s ++ u) specs lens next e in
      let c = u64-cut s u 0 r.count r.first r.counted in
      elim (dec_lt 0 (length s)) [
        | no a ↦
            let z : 0 ≡ length s = omega arith in
            let g : parse s ≡ faulty 21 (length s) = parse-bad 21 (length s) (u64-none s 0 (omega arith)) in
            let w : TableNumber (s ++ u) (length s) = subst (TableNumber (s ++ u)) z cut.count in
            subst (Broken (s ++ u) (length s) (TableNumber (s ++ u))) (sym g) (due w)
        | yes a ↦ elim (dec_lt (length s) r.first) [
          | yes b ↦
              let g : parse s ≡ faulty 1 0 = parse-bad 1 0 (c.1 a b) in
              subst (Broken (s ++ u) (length s) (TableNumber (s ++ u))) (sym g) (within 0 r.count r.first cut.count r.counted a b)
          | no b ↦
              let y : r.first ≤ length s = omega arith in
              let g = parse-count r.count r.first (c.0 y) r.few in
              let w = (rows_cut s u r.count r.first specs lens next y r.rows).broken l in
              subst (Broken (s ++ u) (length s) (TableNumber (s ++ u))) (sym g)
              (broken-all (s ++ u) (length s) (RowNumber (s ++ u) r.count r.first) (TableNumber (s ++ u)) (length s) (rows_at r.count s r.first)
              (λ k v. cut.row r.count r.first k r.counted v) w)
        ]
      ]

-- THE LAW
pub cut-refused : (b specs lens : List ℕ) (next k : ℕ) → parse b ≡ tab specs lens next → k < length b → Refused b next k
cut-refused b specs lens next k e l =
    let z : take k b ++ drop k b ≡ b = take-append-drop k b in
    let n : length (take k b) ≡ k = length-take-le k b (omega arith) in
    let f : parse (take k b ++ drop k b) ≡ tab specs lens next = ap parse z ∙ e in
    let m : length (take k b) < length (take k b ++ drop k b) = omega (arith, ap length z) in
    record {
      short = λ a. cut_short (take k b) (drop k b) specs lens next f m (omega arith);
      broken = λ a.
          let h : length (take k b) < next = omega arith in
          rw (n, z) at (cut-broken (take k b) (drop k b) specs lens next f h);
    }

-- so that no part of a block is a block
broken-fault : (s : List ℕ) (k : ℕ) (P : ℕ → Type 0) (t : Tab) → Broken s k P t → (specs lens : List ℕ) (next : ℕ) → t ≡ tab specs lens next → ⊥
broken-fault s k P _ (due h) specs lens next e = let z : ◌≡◌ {A = ℕ} 0 1 = cc in omega arith
broken-fault s k P _ (within p v q h f a b) specs lens next e = let z : ◌≡◌ {A = ℕ} 0 1 = cc in omega arith

pub cut-never-opens : (b specs lens : List ℕ) (next k : ℕ) → parse b ≡ tab specs lens next → k < length b
    → (specs' lens' : List ℕ) (next' : ℕ) → parse (take k b) ≡ tab specs' lens' next' → ⊥
cut-never-opens b specs lens next k e l specs' lens' next' f =
    let r = cut-refused b specs lens next k e l in
    elim (dec_lt k next) [
      | yes a ↦ broken-fault b k (TableNumber b) (parse (take k b)) (r.broken a) specs' lens' next' f
      | no a ↦ let g : faulty 14 0 ≡ tab specs' lens' next' = sym (r.short (omega arith)) ∙ f in let z : ◌≡◌ {A = ℕ} 0 1 = cc in omega arith
    ]

-- and `read_table`, over a block that was cut, gives a refusal
pub cut-not-opened : (b specs lens : List ℕ) (next k : ℕ) → parse b ≡ tab specs lens next → k < length b → (opened (parse (take k b))).number ≡ 0 → ⊥
cut-not-opened b specs lens next k e l z = cut-never-opens b specs lens next k e l _ _ _ (open-good (take k b) refl z).is
