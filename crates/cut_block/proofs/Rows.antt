-- The rows of any bytes: `parse` is they, judged; a block's rows are those of every part of it that has its table; what is there of a column is what it
-- begins with. Assumes nothing.
use Prim.Native.Nat.{ℕ, zero, suc, ◌+◌, ◌-◌, ◌≤◌, min}
use mathlib.Core.Path.{◌≡◌, refl, sym, ◌∙◌, ap}
use mathlib.Core.List.{List, [], ◌∷◌, ◌++◌}
use mathlib.Core.Bool.{Bool, true, false, cond}
use native.Mathlib.Decide.{dec_lt}
use native.Mathlib.Omega.{arith}
use lib.Dec.{ltb}
use lib.ListN.{length, get_or, take, drop, length-take, length-drop, take-append-drop, drop_of_length-le}
use lib.Seq.{length-take-le, take-nil, take_all, take-append-le, take-append-add, drop-append-le}
use Rattle.leb128.specs.Got.{Got, got, bad}
use Rattle.leb128.specs.Read.{u32_at, u64_at}
use Rattle.encoding.specs.Walk.{Ending, sound, fault}
use Rattle.raw_column.specs.Table.{Tab, tab, faulty, with_number, with_row, rows_at, sum, judged, parse}
use Rattle.block_frame.specs.Columns.{cut}
use Rattle.block_frame.proofs.Cutting.{cut_at}
use Rattle.block_frame.proofs.Tables.{accepted}
use Rattle.salvage.specs.Kept.{Prefix}
use Rattle.salvage.proofs.Keeping.{prefix-nil, prefix-self, prefix-behind}
use Rattle.salvage.proofs.Staying.{Stays, u32-stays, u64-stays}
use Rattle.cut_block.specs.Rows.{Rows, no_rows, ahead, with_rows, rows_from, rows_of, tab_by, tab_of}
use Rattle.cut_block.proofs.Tables.{rows-there}

-- ---- `parse` by the rows

tab-ahead : (spec len : ℕ) (specs lens : List ℕ) (next : ℕ) (e : Ending)
    → tab_by (spec ∷ specs) (len ∷ lens) next e ≡ with_row spec len (tab_by specs lens next e)
tab-ahead spec len specs lens next sound = refl
tab-ahead spec len specs lens next (fault number place) = refl

tab-with : (p : ℕ) (g : Got ℕ) (k : ℕ → ℕ → Rows) (l : ℕ → ℕ → Tab) → ((v q : ℕ) → tab_of (k v q) ≡ l v q) → tab_of (with_rows p g k) ≡ with_number g l
tab-with p (got v q) k l h = h v q
tab-with p (bad number place) k l h = refl

pub tab-rows : (n : ℕ) (s : List ℕ) (p : ℕ) → tab_of (rows_from n s p) ≡ rows_at n s p
unfolding rows_from rows_at
tab-rows zero s p = refl
tab-rows (suc n) s p =
    tab-with p (u32_at s p) _ _ (λ spec q. tab-with p (u64_at s q) _ _
    (λ len r.
    let t = rows_from n s r in
    tab-ahead spec len t.specs t.lens t.next t.ending ∙ ap (with_row spec len) (tab-rows n s r)))

judged-with : (size p : ℕ) (g : Got ℕ) (k : ℕ → ℕ → Rows) (l : ℕ → ℕ → Tab) → ((v q : ℕ) → judged size (tab_of (k v q)) ≡ l v q)
    → judged size (tab_of (with_rows p g k)) ≡ with_number g l
judged-with size p (got v q) k l h = h v q
judged-with size p (bad number place) k l h = refl

few-rows : (size n q : ℕ) (s : List ℕ) (t : Bool)
    → judged size (tab_of (cond t (no_rows q (fault 11 0)) (rows_from n s q))) ≡ cond t (faulty 11 0) (judged size (rows_at n s q))
few-rows size n q s true = refl
few-rows size n q s false = ap (judged size) (tab-rows n s q)

-- THE TABLE READER judges the rows
pub parse-rows : (s : List ℕ) → parse s ≡ judged (length s) (tab_of (rows_of s))
unfolding parse rows_of
parse-rows s = sym (judged-with (length s) 0 (u64_at s 0) _ _ (λ n q. few-rows (length s) n q s (ltb 64 n)))

-- ---- rows that are whole

abbrev pub whole_rows : List ℕ → List ℕ → ℕ → Rows
whole_rows specs lens next = record { specs = specs; lens = lens; next = next; ending = sound }

tab-is : (r : Rows) (specs lens : List ℕ) (next : ℕ) → tab_of r ≡ tab specs lens next → r ≡ whole_rows specs lens next
tab-is r specs lens next e = go r.ending e
  where
    go : (x : Ending) → tab_by r.specs r.lens r.next x ≡ tab specs lens next
        → ◌≡◌ {A = Rows} (record { specs = r.specs; lens = r.lens; next = r.next; ending = x }) (whole_rows specs lens next)
    go sound e =
        let a : r.specs ≡ specs = cc in
        let b : r.lens ≡ lens = cc in
        let c : r.next ≡ next = cc in
        rw (a, b, c) refl
    go (fault number place) e = let z : ◌≡◌ {A = ℕ} 0 1 = cc in absurd (omega arith)

rows-by : (s : List ℕ) (n q : ℕ) (specs lens : List ℕ) (next : ℕ) → u64_at s 0 ≡ got n q → ltb 64 n ≡ false → rows_at n s q ≡ tab specs lens next
    → rows_of s ≡ whole_rows specs lens next
unfolding rows_of
rows-by s n q specs lens next c f e = rw (c, f) (tab-is (rows_from n s q) specs lens next (tab-rows n s q ∙ e))

-- of a block that is accepted
pub rows_are : (s specs lens : List ℕ) (next : ℕ) → parse s ≡ tab specs lens next → rows_of s ≡ whole_rows specs lens next
rows_are s specs lens next e =
    let r = accepted s specs lens next e in
    rows-by s r.count r.first specs lens next r.counted r.few r.rows

-- and of every part of one that has the table
module _ (b specs lens : List ℕ) (next k : ℕ) (e : parse b ≡ tab specs lens next) (l : next ≤ k) (inside : k ≤ length b) where
  pub rows-kept : rows_of (take k b) ≡ whole_rows specs lens next
  rows-kept =
      let f : parse (take k b ++ drop k b) ≡ tab specs lens next = ap parse (take-append-drop k b) ∙ e in
      let n : length (take k b) ≡ k = length-take-le k b inside in
      let r = accepted (take k b ++ drop k b) specs lens next f in
      let w = rows-there (take k b) (drop k b) specs lens next f (omega arith) in
      rows-by (take k b) r.count r.first specs lens next w.0 r.few w.1

-- ---- bytes behind others: the rows that are read stay, and where the table is whole they are all

pub record Lasts (r t : Rows) : Type 0 where
  pub specs-last : Prefix r.specs t.specs
  pub lens-last : Prefix r.lens t.lens
  pub all : r.ending ≡ sound → t ≡ r

with-last : (p : ℕ) (g h : Got ℕ) (k l : ℕ → ℕ → Rows) → Stays g h → ((v q : ℕ) → Lasts (k v q) (l v q)) → Lasts (with_rows p g k) (with_rows p h l)
with-last p (got v q) h k l e f = rw e (f v q)
with-last p (bad number place) h k l e f =
    record { specs-last = prefix-nil _; lens-last = prefix-nil _; all = λ z. let y : ◌≡◌ {A = ℕ} 0 1 = cc in absurd (omega arith) }

last-self : (r : Rows) → Lasts r r
last-self r = record { specs-last = prefix-self r.specs; lens-last = prefix-self r.lens; all = λ z. refl }

last-ahead : (spec len : ℕ) (r t : Rows) → Lasts r t → Lasts (ahead spec len r) (ahead spec len t)
last-ahead spec len r t h =
    record {
      specs-last = prefix-behind (spec ∷ []) r.specs t.specs h.specs-last;
      lens-last = prefix-behind (len ∷ []) r.lens t.lens h.lens-last;
      all = λ z. ap (ahead spec len) (h.all z);
    }

from_last : (n : ℕ) (s u : List ℕ) (p : ℕ) → Lasts (rows_from n s p) (rows_from n (s ++ u) p)
unfolding rows_from
from_last zero s u p = last-self (no_rows p sound)
from_last (suc n) s u p =
    with-last p (u32_at s p) (u32_at (s ++ u) p) _ _ (u32-stays s u p)
    (λ spec q. with-last p (u64_at s q) (u64_at (s ++ u) q) _ _ (u64-stays s u q)
    (λ len r. last-ahead spec len (rows_from n s r) (rows_from n (s ++ u) r) (from_last n s u r)))

count-last : (n q : ℕ) (s u : List ℕ) (t : Bool)
    → Lasts (cond t (no_rows q (fault 11 0)) (rows_from n s q)) (cond t (no_rows q (fault 11 0)) (rows_from n (s ++ u) q))
count-last n q s u true = last-self (no_rows q (fault 11 0))
count-last n q s u false = from_last n s u q

-- THE LAW of the rows
pub rows_last : (s u : List ℕ) → Lasts (rows_of s) (rows_of (s ++ u))
unfolding rows_of
rows_last s u = with-last 0 (u64_at s 0) (u64_at (s ++ u) 0) _ _ (u64-stays s u 0) (λ n q. count-last n q s u (ltb 64 n))

-- ---- what is there of a column

take-prefix : {A : Type 0} (n : ℕ) (x y : List A) → Prefix (take n x) (take n (x ++ y))
take-prefix n x y = elim (dec_lt (length x) n) [
  | yes l ↦
      let z : length x + (n - length x) ≡ n = omega arith in
      let a : take n x ≡ x = take_all n x (omega arith) in
      let b : take n (x ++ y) ≡ x ++ take (n - length x) y = ap (λ (m : ℕ). take m (x ++ y)) (sym z) ∙ take-append-add x y (n - length x) in
      record { rest = take (n - length x) y; split = b ∙ ap (λ (w : List _). w ++ take (n - length x) y) (sym a) }
  | no l ↦ let a = take-append-le n x y (omega arith) in rw a (prefix-self (take n x))
]

pub part-prefix : (lens d e : List ℕ) (i : ℕ) → Prefix (get_or (cut lens d) i []) (get_or (cut lens (d ++ e)) i [])
part-prefix lens d e i =
    let o : ℕ = sum (take i lens) in
    rw (cut_at lens d i, cut_at lens (d ++ e) i)
    (elim (dec_lt (length d) o) [
      | yes l ↦
          let m : length d ≤ o = omega arith in
          let a : drop o d ≡ [] = drop_of_length-le d m in
          rw (a, take-nil {A = ℕ} (get_or lens i 0)) (prefix-nil _)
      | no l ↦ rw (drop-append-le o d e (omega arith)) (take-prefix (get_or lens i 0) (drop o d) e)
    ])

pub part-whole : (lens d e : List ℕ) (i : ℕ) → sum (take i lens) + get_or lens i 0 ≤ length d → get_or (cut lens d) i [] ≡ get_or (cut lens (d ++ e)) i []
part-whole lens d e i l =
    let o : ℕ = sum (take i lens) in
    let m : o ≤ length d = omega arith in
    let n : get_or lens i 0 ≤ length (drop o d) = omega (arith, length-drop o d) in
    rw (cut_at lens d i, cut_at lens (d ++ e) i, drop-append-le o d e m) (sym (take-append-le (get_or lens i 0) (drop o d) e n))

-- so many bytes of a column are there
pub part_length : (lens d : List ℕ) (i : ℕ) → length (get_or (cut lens d) i []) ≡ min (get_or lens i 0) (length d - sum (take i lens))
part_length lens d i =
    let o : ℕ = sum (take i lens) in
    ap length (cut_at lens d i) ∙ length-take (get_or lens i 0) (drop o d) ∙ ap (min (get_or lens i 0)) (length-drop o d)
