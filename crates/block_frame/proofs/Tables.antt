-- Tables written and read: a proper table is read back from its bytes, and a table that is accepted is proper, fills its block, and has the
-- bytes that would be written for it. Assumes nothing.
use Prim.Native.Nat.{ℕ, zero, suc, ◌+◌, ◌-◌, ◌^◌, ◌≤◌, ◌<◌, zero-le}
use mathlib.Core.Path.{◌≡◌, refl, sym, ap, ◌∙◌}
use mathlib.Core.List.{List, [], ◌∷◌, ◌++◌, append_assoc, append-nil}
use mathlib.Core.Bool.{Bool, true, false, cond, not}
use native.Mathlib.Omega.{arith}
use lib.ListN.{length, get_or, set, take, drop, length-append}
use lib.Seq.{drop-drop, take-add}
use lib.Dec.{ltb}
use borrow.Author.Tests.{le-ltb, le-leb}
use Rattle.leb128.specs.Got.{Got, got, bad}
use Rattle.leb128.specs.Read.{u32_at, u64_at}
use Rattle.leb128.specs.Write.{u64_bytes}
use Rattle.leb128.proofs.Cut.{u32-is}
use Rattle.leb128.proofs.Laws.{u64-back, u64-only, u64-next}
use Rattle.raw_column.specs.Table.{Tab, tab, faulty, with_number, with_row, rows_at, in_order, plain, sum, judged, parse}
use Rattle.block_frame.specs.Columns.{rows_bytes, table_bytes}
use Rattle.block_frame.proofs.Cutting.{sum-at}
use Rattle.raw_column.proofs.Opening.{number_by, ParseOk, parse-ok}

-- each number below a bound
abbrev pub Below : ℕ → List ℕ → Type 0
Below bound xs = (i : ℕ) → get_or xs i 0 < bound

-- what a table has to be: as many lengths as specifications, at most 64, each number within its type, keys in order, no bit 3
pub record Proper (specs lens : List ℕ) : Type 0 where
  pub even : length lens ≡ length specs
  pub few : length specs ≤ 64
  pub specs-fit : Below (2 ^ 32) specs
  pub lens-fit : Below (2 ^ 64) lens
  pub ordered : in_order 0 specs ≡ true
  pub bare : plain specs ≡ true

pub below_set : (bound : ℕ) (xs : List ℕ) (i v : ℕ) → Below bound xs → v < bound → Below bound (set xs i v)
below_set bound [] i v h b k = h k
below_set bound (x ∷ xs) zero v h b zero = b
below_set bound (x ∷ xs) zero v h b (suc k) = h (suc k)
below_set bound (x ∷ xs) (suc i) v h b zero = h zero
below_set bound (x ∷ xs) (suc i) v h b (suc k) = below_set bound xs i v (λ j. h (suc j)) b k

pub below-cons : (bound x : ℕ) (xs : List ℕ) → x < bound → Below bound xs → Below bound (x ∷ xs)
below-cons bound x xs b h zero = b
below-cons bound x xs b h (suc k) = h k

-- ---- what was written is read back

u64-there : (pre rest : List ℕ) (v : ℕ) → v < 2 ^ 64 → u64_at (pre ++ (u64_bytes v ++ rest)) (length pre) ≡ got v (length (pre ++ u64_bytes v))
u64-there pre rest v h = u64-back pre rest v h ∙ ap (got v) (sym (length-append pre (u64_bytes v)))

u32-there : (pre rest : List ℕ) (v : ℕ) → v < 2 ^ 32 → u32_at (pre ++ (u64_bytes v ++ rest)) (length pre) ≡ got v (length (pre ++ u64_bytes v))
unfolding u32_at
u32-there pre rest v h =
    let w : v < 2 ^ 64 = omega arith in
    let l : v ≤ 4294967295 = omega arith in
    rw (u64-there pre rest v w, le-leb v 4294967295 l)

rows_back : (specs lens pre rest : List ℕ) → length lens ≡ length specs → Below (2 ^ 32) specs → Below (2 ^ 64) lens
    → rows_at (length specs) (pre ++ (rows_bytes specs lens ++ rest)) (length pre) ≡ tab specs lens (length (pre ++ rows_bytes specs lens))
unfolding rows_at rows_bytes
rows_back [] [] pre rest e a b = ap (λ (l : List ℕ). tab [] [] (length l)) (sym (append-nil pre))
rows_back [] (len ∷ lens) pre rest e a b = absurd (omega arith)
rows_back (spec ∷ specs) [] pre rest e a b = absurd (omega arith)
rows_back (spec ∷ specs) (len ∷ lens) pre rest e a b =
    let R = rows_bytes specs lens ++ rest in
    let p₂ = pre ++ u64_bytes spec in
    let p₃ = p₂ ++ u64_bytes len in
    let s₁ : pre ++ ((u64_bytes spec ++ (u64_bytes len ++ rows_bytes specs lens)) ++ rest) ≡ pre ++ (u64_bytes spec ++ (u64_bytes len ++ R)) =
    simp append_assoc in
    let s₂ : pre ++ (u64_bytes spec ++ (u64_bytes len ++ R)) ≡ p₂ ++ (u64_bytes len ++ R) = simp append_assoc in
    let s₃ : p₂ ++ (u64_bytes len ++ R) ≡ p₃ ++ R = simp append_assoc in
    let n₁ = u32-there pre (u64_bytes len ++ R) spec (a zero) in
    let n₂ : u64_at (pre ++ (u64_bytes spec ++ (u64_bytes len ++ R))) (length p₂) ≡ got len (length p₃) =
    ap (λ (s : List ℕ). u64_at s (length p₂)) s₂ ∙ u64-there p₂ R len (b zero) in
    let c : length lens ≡ length specs = omega arith in
    let r : rows_at (length specs) (pre ++ (u64_bytes spec ++ (u64_bytes len ++ R))) (length p₃) ≡ tab specs lens (length (p₃ ++ rows_bytes specs lens)) =
    ap (λ (s : List ℕ). rows_at (length specs) s (length p₃)) (s₂ ∙ s₃)
    ∙ rows_back specs lens p₃ rest c (λ i. a (suc i)) (λ i. b (suc i)) in
    let f : length (p₃ ++ rows_bytes specs lens) ≡ length (pre ++ (u64_bytes spec ++ (u64_bytes len ++ rows_bytes specs lens))) = simp append_assoc in
    rw (s₁, n₁, n₂, r, f)

pub table-back : (specs lens d : List ℕ) → Proper specs lens → sum lens ≡ length d
    → parse (table_bytes specs lens ++ d) ≡ tab specs lens (length (table_bytes specs lens))
unfolding parse table_bytes
table-back specs lens d p e =
    let C = u64_bytes (length specs) in
    let R = rows_bytes specs lens in
    let b : (C ++ R) ++ d ≡ C ++ (R ++ d) = append_assoc C R d in
    let n : u64_at (C ++ (R ++ d)) 0 ≡ got (length specs) (length C) = u64-there [] (R ++ d) (length specs) (omega (arith, p.few)) in
    let r : rows_at (length specs) (C ++ (R ++ d)) (length C) ≡ tab specs lens (length (C ++ R)) =
    rows_back specs lens C d p.even p.specs-fit p.lens-fit in
    let D = length (C ++ (R ++ d)) in
    let Q = length (C ++ R) in
    let s : sum lens ≡ D - Q = omega (arith, length-append C (R ++ d), length-append R d, length-append C R) in
    let g : sum lens ≤ D - Q = omega arith in
    let l : D - Q ≤ sum lens = omega arith in
    rw (b, n, le-ltb 64 (length specs) p.few, r, p.ordered, p.bare, le-ltb (D - Q) (sum lens) g, le-ltb (sum lens) (D - Q) l)

-- ---- what is accepted is what is written

-- how a table came to be accepted: a count and its rows, which passed the checks
pub record Accepted (s specs lens : List ℕ) (next : ℕ) : Type 0 where
  pub count : ℕ
  pub first : ℕ
  pub counted : u64_at s 0 ≡ got count first
  pub few : ltb 64 count ≡ false
  pub rows : rows_at count s first ≡ tab specs lens next
  pub ordered : in_order 0 specs ≡ true
  pub bare : plain specs ≡ true

module _ (s specs lens : List ℕ) (next : ℕ) where
  accepted-rows : (n q : ℕ) → u64_at s 0 ≡ got n q → ltb 64 n ≡ false → (t : Tab) → rows_at n s q ≡ t → judged (length s) t ≡ tab specs lens next
      → Accepted s specs lens next
  accepted-rows n q c f (faulty number place) r e = let z : ◌≡◌ {A = ℕ} 0 1 = cc in absurd (omega arith)
  accepted-rows n q c f (tab a b m) r e =
      go (in_order 0 a) (plain a) (ltb (length s - m) (sum b)) (ltb (sum b) (length s - m)) refl refl e
    where
      go : (w x y z : Bool) → in_order 0 a ≡ w → plain a ≡ x
          → cond (not w) (faulty 12 0) (cond (not x) (faulty 13 0) (cond y (faulty 14 0) (cond z (faulty 15 0) (tab a b m)))) ≡ tab specs lens next
          → Accepted s specs lens next
      go false x y z i j e = let o : ◌≡◌ {A = ℕ} 0 1 = cc in absurd (omega arith)
      go true false y z i j e = let o : ◌≡◌ {A = ℕ} 0 1 = cc in absurd (omega arith)
      go true true true z i j e = let o : ◌≡◌ {A = ℕ} 0 1 = cc in absurd (omega arith)
      go true true false true i j e = let o : ◌≡◌ {A = ℕ} 0 1 = cc in absurd (omega arith)
      go true true false false i j e =
          let a' : a ≡ specs = cc in
          record {
            count = n;
            first = q;
            counted = c;
            few = f;
            rows = r ∙ e;
            ordered = rw a' at i;
            bare = rw a' at j;
          }

  accepted-count : (g : Got ℕ) → u64_at s 0 ≡ g
      → with_number g (λ n q. cond (ltb 64 n) (faulty 11 0) (judged (length s) (rows_at n s q))) ≡ tab specs lens next → Accepted s specs lens next
  accepted-count (bad number place) c e = let z : ◌≡◌ {A = ℕ} 0 1 = cc in absurd (omega arith)
  accepted-count (got n q) c e = go (ltb 64 n) refl e
    where
      go : (t : Bool) → ltb 64 n ≡ t → cond t (faulty 11 0) (judged (length s) (rows_at n s q)) ≡ tab specs lens next → Accepted s specs lens next
      go true f e = let z : ◌≡◌ {A = ℕ} 0 1 = cc in absurd (omega arith)
      go false f e = accepted-rows n q c f (rows_at n s q) refl e

  pub accepted : parse s ≡ tab specs lens next → Accepted s specs lens next
  unfolding parse
  accepted e = accepted-count (u64_at s 0) refl e

-- n rows that are read from a position: so many, behind it, and each specification within its type
abbrev pub Ended : ℕ → ℕ → Tab → Type 0
Ended n p (tab specs lens next) = (length specs ≡ n) × (p ≤ next) × Below (2 ^ 32) specs
Ended n p (faulty number place) = Unit {0}

ended-row : (n p r spec len : ℕ) (t : Tab) → p ≤ r → spec < 2 ^ 32 → Ended n r t → Ended (suc n) p (with_row spec len t)
ended-row n p r spec len (tab specs lens next) l b h = (ap suc h.0, omega arith, below-cons (2 ^ 32) spec specs b h.2)
ended-row n p r spec len (faulty number place) l b h = tt

pub ended : (n : ℕ) (s : List ℕ) (p : ℕ) → Ended n p (rows_at n s p)
unfolding rows_at
ended zero s p = (refl, omega arith, λ i. omega arith)
ended (suc n) s p =
    number_by (Ended (suc n) p) (u32_at s p) _
    (λ spec q e. number_by (Ended (suc n) p) (u64_at s q) _
    (λ len r f.
    let w = u32-is s p spec q e in
    let a = u64-next s p spec q w.0 in
    let b = u64-next s q len r f in
    ended-row n p r spec len (rows_at n s r) (omega arith) w.1 (ended n s r))
    (λ number place f. tt))
    (λ number place e. tt)

-- an accepted table: at most 64 rows, whose columns fill the block
pub record Fills (s specs lens : List ℕ) (next : ℕ) : Type 0 where
  pub even : length lens ≡ length specs
  pub few : length specs ≤ 64
  pub whole : next + sum lens ≡ length s

module _ (s specs lens : List ℕ) (next : ℕ) (e : parse s ≡ tab specs lens next) where
  pub table-fills : Fills s specs lens next
  table-fills = let h : ParseOk (length s) (tab specs lens next) = rw e at (parse-ok s) in record { even = h.1; few = h.0; whole = h.2 }

  accepted-ended : Ended (accepted s specs lens next e).count (accepted s specs lens next e).first (tab specs lens next)
  accepted-ended = let a = accepted s specs lens next e in rw a.rows at (ended a.count s a.first)

  table-proper : Below (2 ^ 64) lens → Proper specs lens
  table-proper fit =
      let a = accepted s specs lens next e in
      let f = table-fills in
      record {
        even = f.even;
        few = f.few;
        specs-fit = accepted-ended.2;
        lens-fit = fit;
        ordered = a.ordered;
        bare = a.bare;
      }

  -- the table of a block of fewer than 2^64 bytes is proper
  pub short-proper : length s < 2 ^ 64 → Proper specs lens
  short-proper h = table-proper (λ i. omega (arith, sum-at lens i, table-fills.whole))

-- two parts of a list that follow one another
parts : (s : List ℕ) (p q r : ℕ) → p ≤ q → q ≤ r → take (r - p) (drop p s) ≡ take (q - p) (drop p s) ++ take (r - q) (drop q s)
parts s p q r a b =
    let e : r - p ≡ (q - p) + (r - q) = omega arith in
    let f : p + (q - p) ≡ q = omega arith in
    ap (λ (k : ℕ). take k (drop p s)) e ∙ take-add (q - p) (r - q) (drop p s)
    ∙ ap (λ (l : List ℕ). take (q - p) (drop p s) ++ take (r - q) l) (drop-drop (q - p) p s ∙ ap (λ (k : ℕ). drop k s) f)

-- rows that are read from a position stand there as they would be written
abbrev Stand : List ℕ → ℕ → Tab → Type 0
Stand s p (tab specs lens next) = Below (2 ^ 64) lens × (p ≤ next) × (take (next - p) (drop p s) ≡ rows_bytes specs lens)
Stand s p (faulty number place) = Unit {0}

stand-row : (s : List ℕ) (p q r spec len : ℕ) (t : Tab) → p ≤ q → q ≤ r → take (q - p) (drop p s) ≡ u64_bytes spec → take (r - q) (drop q s) ≡ u64_bytes len
    → len < 2 ^ 64 → Stand s r t → Stand s p (with_row spec len t)
unfolding rows_bytes
stand-row s p q r spec len (tab specs lens next) a b e f g h = (
  below-cons (2 ^ 64) len lens g h.0,
  omega (arith, h.1),
  parts s p q next a (omega (arith, h.1)) ∙ ap (λ (l : List ℕ). l ++ take (next - q) (drop q s)) e
      ∙ ap (λ (l : List ℕ). u64_bytes spec ++ l)
      (parts s q r next b h.1 ∙ ap (λ (l : List ℕ). l ++ take (next - r) (drop r s)) f ∙ ap (λ (l : List ℕ). u64_bytes len ++ l) h.2),
)
stand-row s p q r spec len (faulty number place) a b e f g h = tt

stand : (s : List ℕ) → Below 256 s → (n p : ℕ) → Stand s p (rows_at n s p)
unfolding rows_at rows_bytes
stand s bytes zero p =
    let z : p - p ≡ 0 = omega arith in
    (λ i. omega arith, omega arith, ap (λ (k : ℕ). take k (drop p s)) z)
stand s bytes (suc n) p =
    number_by (Stand s p) (u32_at s p) _
    (λ spec q e. number_by (Stand s p) (u64_at s q) _
    (λ len r f.
    let w = u32-is s p spec q e in
    let a = u64-next s p spec q w.0 in
    let b = u64-next s q len r f in
    let c = u64-only s bytes p spec q w.0 in
    let d = u64-only s bytes q len r f in
    stand-row s p q r spec len (rows_at n s r) (omega arith) (omega arith) c.0 d.0 d.1 (stand s bytes n r))
    (λ number place f. tt))
    (λ number place e. tt)

-- an accepted table of bytes is proper, and the block begins with what would be written for it
pub table-only : (s specs lens : List ℕ) (next : ℕ) → Below 256 s → parse s ≡ tab specs lens next
    → Proper specs lens × (take next s ≡ table_bytes specs lens)
unfolding table_bytes
table-only s specs lens next bytes e =
    let a = accepted s specs lens next e in
    let o = u64-only s bytes 0 a.count a.first a.counted in
    let r = accepted-ended s specs lens next e in
    let d : Stand s a.first (tab specs lens next) = rw a.rows at (stand s bytes a.count a.first) in
    let z : next - 0 ≡ next = omega arith in (
      table-proper s specs lens next e d.0,
      ap (λ (k : ℕ). take k s) (sym z) ∙ parts s 0 a.first next zero-le r.1
          ∙ ap (λ (l : List ℕ). l ++ take (next - a.first) (drop a.first s)) (o.0 ∙ ap u64_bytes (sym r.0))
          ∙ ap (λ (l : List ℕ). u64_bytes (length specs) ++ l) d.2,
    )
