-- Reading a table: what holds at the head of each loop over rows, one law for each way out, and what
-- an accepted table says of its block. Assumes nothing.
use mathlib.Core.Path.{◌≡◌, refl, sym, ap, ◌∙◌}
use mathlib.Core.List.{List, [], ◌∷◌, ◌++◌, append_assoc, append-nil}
use mathlib.Core.Bool.{Bool, true, false, cond, not}
use Prim.Native.Nat.{ℕ, zero, suc, ◌+◌, ◌-◌, ◌≤◌, ◌<◌, zero-le}
use native.Mathlib.Decide.{dec_lt}
use native.Mathlib.Numerals.{add-one}
use native.Mathlib.Omega.{arith}
use lib.ListN.{length, get_or, set, take, drop, replicate, length-set, length-take, take-append-drop, length-append, length-replicate}
use lib.ListN.{drop_of_length-le, get_or-append}
use lib.Seq.{drop-cons, drop-set-lt, drop-drop, take-suc-set, length-take-le, get_or-take, take_at}
use lib.Dec.{ltb}
use borrow.Author.Tests.{ltb-false, lt-ltb, le-ltb}
use Rattle.leb128.specs.Got.{Got, got, bad}
use Rattle.leb128.specs.Read.{u64_at, u32_at}
use Rattle.leb128.proofs.Refusals.{u64-fault, u32-fault}
use Rattle.leb128.proofs.Laws.{u64-next}
use Rattle.column_specification.specs.Key.{key}
use Rattle.column_specification.specs.Specification.{compressed_of}
use Rattle.encoding.proofs.Lists.{cond-by}
use Rattle.raw_column.specs.Table.{Tab, tab, faulty, with_number, with_row, rows_at, in_order, plain, sum, judged, parse}
use Rattle.raw_column.specs.Rows.{pad, starts_from, opened, empty_table, fault_of, Taken}
use Rattle.raw_column.specs.declared.Row.{Row}
use Rattle.raw_column.specs.declared.Table.{Table}
use Rattle.raw_column.specs.declared.TableAnswer.{TableAnswer}

-- ---- by cases
pub number_by : (P : Tab → Type 0) (m : Got ℕ) (k : ℕ → ℕ → Tab) → ((v next : ℕ) → m ≡ got v next → P (k v next))
    → ((r place : ℕ) → m ≡ bad r place → P (faulty r place)) → P (with_number m k)
number_by P (got v next) k g b = g v next refl
number_by P (bad r place) k g b = b r place refl

-- ---- lists in 64 places
less : (n i : ℕ) → i < n → n - i ≡ suc (n - (i + 1))
less n i h = omega arith

-- the places from i on are unused
pub record Unused (xs : List ℕ) (i : ℕ) : Type 0 where
  pub long : length xs ≡ 64
  pub zeros : drop i xs ≡ replicate (64 - i) 0

none-used : Unused (replicate 64 0) 0
none-used = record { long = refl; zeros = refl }

one-used : (xs : List ℕ) (i v : ℕ) → i < 64 → Unused xs i → Unused (set xs i v) (i + 1)
one-used xs i v h u =
    record {
      long = length-set xs i v ∙ u.long;
      zeros = drop-set-lt (i + 1) xs i v (omega arith) ∙ sym (drop-drop 1 i xs) ∙ ap (drop 1) (u.zeros ∙ ap (λ (k : ℕ). replicate k 0) (less 64 i h));
    }

taken-one : (xs : List ℕ) (i v : ℕ) → i < 64 → Unused xs i → take (i + 1) (set xs i v) ≡ take i xs ++ (v ∷ [])
taken-one xs i v h u = let b : i < length xs = omega (arith, u.long) in rw (add-one, take-suc-set xs i v b)

used-pad : (xs : List ℕ) (n : ℕ) → n ≤ 64 → Unused xs n → xs ≡ pad (take n xs)
unfolding pad
used-pad xs n h u =
    let b : n ≤ length xs = omega (arith, u.long) in
    sym (take-append-drop n xs) ∙ ap (λ (r : List ℕ). take n xs ++ r) (u.zeros ∙ ap (λ (k : ℕ). replicate (64 - k) 0) (sym (length-take-le n xs b)))

pad-long : (xs : List ℕ) → length xs ≤ 64 → length (pad xs) ≡ 64
unfolding pad
pad-long xs h = omega (arith, length-append xs (replicate (64 - length xs) 0), length-replicate (64 - length xs) zero)

pad-at : (xs : List ℕ) (i : ℕ) → i < length xs → get_or (pad xs) i 0 ≡ get_or xs i 0
unfolding pad
pad-at xs i h = get_or-append xs _ 0 i h

take-pad : (n : ℕ) (xs : List ℕ) → length xs ≡ n → take n (pad xs) ≡ xs
unfolding pad
take-pad n xs h = take_at xs _ n h

-- ---- a row in front of others
module _ (s : List ℕ) (p : ℕ) where
  pub row-bad : {number place : ℕ} → u32_at s p ≡ bad number place → (k : ℕ) → rows_at (suc k) s p ≡ faulty number place
  unfolding rows_at
  row-bad e k = rw e

  module _ {spec q : ℕ} (e : u32_at s p ≡ got spec q) where
    pub row-bad-len : {number place : ℕ} → u64_at s q ≡ bad number place → (k : ℕ) → rows_at (suc k) s p ≡ faulty number place
    unfolding rows_at
    row-bad-len f k = rw (e, f)

    pub row-good : {len r : ℕ} → u64_at s q ≡ got len r → (k : ℕ) → rows_at (suc k) s p ≡ with_row spec len (rows_at k s r)
    unfolding rows_at
    row-good f k = rw (e, f)

-- ---- rows that are read into two lists
-- rows in front of others
abbrev ahead : List ℕ → List ℕ → Tab → Tab
ahead specs lens (tab a b next) = tab (specs ++ a) (lens ++ b) next
ahead specs lens (faulty number place) = faulty number place

ahead-row : (specs lens : List ℕ) (spec len : ℕ) (t : Tab) → ahead specs lens (with_row spec len t) ≡ ahead (specs ++ (spec ∷ [])) (lens ++ (len ∷ [])) t
ahead-row specs lens spec len (tab a b next) = simp append_assoc
ahead-row specs lens spec len (faulty number place) = refl

ahead_none : (t : Tab) → ahead [] [] t ≡ t
ahead_none (tab a b next) = refl
ahead_none (faulty number place) = refl

-- what holds at the head of a loop
pub record Going (s : List ℕ) (at n : ℕ) (specs lens : List ℕ) (i p : ℕ) : Type 0 where
  pub within : i ≤ n
  pub specs-free : Unused specs i
  pub lens-free : Unused lens i
  pub rest : ahead (take i specs) (take i lens) (rows_at (n - i) s p) ≡ rows_at n s at

pub going_start : (s : List ℕ) (at n : ℕ) → Going s at n (replicate 64 0) (replicate 64 0) 0 at
going_start s at n =
    let e : n - 0 ≡ n = omega arith in
    record {
      within = zero-le;
      specs-free = none-used;
      lens-free = none-used;
      rest = ap (λ (k : ℕ). ahead [] [] (rows_at k s at)) e ∙ ahead_none (rows_at n s at);
    }

module _ {s : List ℕ} {at n : ℕ} {specs lens : List ℕ} {i p : ℕ} (g : Going s at n specs lens i p) (t : i < n) where
  pub going-bad : {number place : ℕ} → ((k : ℕ) → rows_at (suc k) s p ≡ faulty number place) → faulty number place ≡ rows_at n s at
  going-bad {number} {place} e =
      let w : rows_at (n - i) s p ≡ faulty number place = rw (less n i t) (e (n - (i + 1))) in
      ap (ahead (take i specs) (take i lens)) (sym w) ∙ g.rest

  pub going-turn : (spec len : ℕ) {r : ℕ} → n ≤ 64 → ((k : ℕ) → rows_at (suc k) s p ≡ with_row spec len (rows_at k s r))
      → Going s at n (set specs i spec) (set lens i len) (i + 1) r
  going-turn spec len {r} h e =
      let b : i < 64 = omega arith in
      let w : rows_at (n - i) s p ≡ with_row spec len (rows_at (n - (i + 1)) s r) = rw (less n i t) (e (n - (i + 1))) in
      record {
        within = omega arith;
        specs-free = one-used specs i spec b g.specs-free;
        lens-free = one-used lens i len b g.lens-free;
        rest =
            rw (taken-one specs i spec b g.specs-free, taken-one lens i len b g.lens-free)
            (sym (ahead-row (take i specs) (take i lens) spec len (rows_at (n - (i + 1)) s r))
            ∙ ap (ahead (take i specs) (take i lens)) (sym w)
            ∙ g.rest);
      }

-- ---- lengths that are summed
sum-last : (xs : List ℕ) (x : ℕ) → sum (xs ++ (x ∷ [])) ≡ sum xs + x
unfolding sum
sum-last [] x = omega arith
sum-last (y ∷ xs) x = let r = sum-last xs x in omega (arith, r)

starts-last : (k : ℕ) (xs : List ℕ) (x : ℕ) → starts_from k (xs ++ (x ∷ [])) ≡ starts_from k xs ++ ((k + sum xs) ∷ [])
unfolding sum starts_from
starts-last k [] x = let e : k ≡ k + 0 = omega arith in ap (λ (a : ℕ). a ∷ []) e
starts-last k (y ∷ xs) x =
    let e : k + y + sum xs ≡ k + (y + sum xs) = omega arith in
    ap (λ (a : List ℕ). k ∷ a) (starts-last (k + y) xs x ∙ ap (λ (a : ℕ). starts_from (k + y) xs ++ (a ∷ [])) e)

-- a sum of lengths up to a size, and the starts of the columns while the sum is below it
pub record Summing (size : ℕ) (lens starts : List ℕ) (total : ℕ) : Type 0 where
  pub fits : total ≤ size
  pub reached : total ≤ sum lens
  pub exact : total < size → (total ≡ sum lens) × (starts ≡ starts_from 0 lens)

summing_start : (size : ℕ) → Summing size [] [] 0
unfolding sum starts_from
summing_start size = record { fits = zero-le; reached = zero-le; exact = λ h. (refl, refl) }

summing-turn : {size : ℕ} {lens starts : List ℕ} {total : ℕ} (g : Summing size lens starts total) (len more : ℕ)
    → (more ≤ size) × (more ≤ total + len) × (more < size → more ≡ total + len) → Summing size (lens ++ (len ∷ [])) (starts ++ (total ∷ [])) more
summing-turn {size} {lens} {starts} {total} g len more a =
    record {
      fits = a.0;
      reached = omega (arith, sum-last lens len, g.reached, a.1);
      exact = λ h.
          let w = g.exact (omega (arith, a.2 h)) in (
            omega (arith, sum-last lens len, w.0, a.2 h),
            rw (w.1, w.0, starts-last 0 lens len) (ap (λ (k : ℕ). starts_from 0 lens ++ (k ∷ [])) (omega arith)),
          );
    }

-- ---- read_table: what holds at the head of its loop
pub record Filling (s : List ℕ) (at n : ℕ) (t : Table) (p total i : ℕ) : Type 0 where
  pub counted : u64_at s 0 ≡ got n at
  pub few : n ≤ 64
  pub many : t.rows ≡ n
  pub begun : 0 < p
  pub inside : p ≤ length s
  pub going : Going s at n t.specs t.lens i p
  pub starts-free : Unused t.starts i
  pub summing : Summing (length s) (take i t.lens) (take i t.starts) total

pub filling-start : (s : List ℕ) {at n : ℕ} → (u64_at s 0 ≡ got n at) × (n ≤ 64) → {t : Table} → t ≡ empty_table n → Filling s at n t at 0 0
filling-start s {at} {n} g o =
    let w = u64-next s 0 n at g.0 in
    rw o
    (record {
      counted = g.0;
      few = g.1;
      many = refl;
      begun = w.0;
      inside = w.1;
      going = going_start s at n;
      starts-free = none-used;
      summing = summing_start (length s);
    })

module _ {s : List ℕ} {at n : ℕ} {t : Table} {p total i : ℕ} (g : Filling s at n t p total i) (h : i < n) where
  pub filling-turn : (r : Row) → Taken s p r → {more : ℕ} → (more ≤ length s) × (more ≤ total + r.len) × (more < length s → more ≡ total + r.len)
      → Filling s at n
      (record { specs = set t.specs i r.spec; starts = set t.starts i total; lens = set t.lens i r.len; rows = t.rows })
      r.next more (i + 1)
  filling-turn r q {more} a =
      let v : i < 64 = omega (arith, g.few) in
      record {
        counted = g.counted;
        few = g.few;
        many = g.many;
        begun = q.0;
        inside = q.1;
        going = going-turn g.going h r.spec r.len g.few q.2;
        starts-free = one-used t.starts i total v g.starts-free;
        summing =
            rw (taken-one t.lens i r.len v g.going.lens-free, taken-one t.starts i total v g.starts-free)
            (summing-turn g.summing r.len more a);
      }

-- ---- tests over the first n: one element more, and the end
pub next_of : (xs : List ℕ) (n i : ℕ) → n ≤ length xs → i < n → drop i (take n xs) ≡ get_or xs i 0 ∷ drop (i + 1) (take n xs)
next_of xs n i h t =
    let b : i < length (take n xs) = rw (length-take-le n xs h) t in
    drop-cons (take n xs) i 0 b ∙ rw (add-one, get_or-take n xs i 0 t)

pub none_left : (xs : List ℕ) (n i : ℕ) → n ≤ i → drop i (take n xs) ≡ []
none_left xs n i h = let b : length (take n xs) ≤ i = omega (arith, length-take n xs) in drop_of_length-le (take n xs) b

module _ (xs : List ℕ) (n i : ℕ) (h : n ≤ length xs) (t : i < n) where
  pub order-on : {last k : ℕ} → k ≡ key (get_or xs i 0) → last ≤ k → in_order last (drop i (take n xs)) ≡ in_order k (drop (i + 1) (take n xs))
  unfolding in_order
  order-on {last} {k} e l = rw (next_of xs n i h t, ← e, le-ltb k last l)

  pub order-falls : {last k : ℕ} → k ≡ key (get_or xs i 0) → k < last → in_order last (drop i (take n xs)) ≡ false
  unfolding in_order
  order-falls {last} {k} e l = rw (next_of xs n i h t, ← e, lt-ltb k last l)

  pub plain-on : compressed_of (get_or xs i 0) ≡ false → plain (drop i (take n xs)) ≡ plain (drop (i + 1) (take n xs))
  unfolding plain
  plain-on e = rw (next_of xs n i h t, e)

  pub plain-not : compressed_of (get_or xs i 0) ≡ true → plain (drop i (take n xs)) ≡ false
  unfolding plain
  plain-not e = rw (next_of xs n i h t, e)

pub order-end : (xs : List ℕ) (n i last : ℕ) → n ≤ i → in_order last (drop i (take n xs)) ≡ true
unfolding in_order
order-end xs n i last h = rw (none_left xs n i h)

pub plain_end : (xs : List ℕ) (n i : ℕ) → n ≤ i → plain (drop i (take n xs)) ≡ true
unfolding plain
plain_end xs n i h = rw (none_left xs n i h)

-- ---- fault_of
module _ (specs : List ℕ) (total room : ℕ) where
  pub fault-12 : in_order 0 specs ≡ false → 12 ≡ fault_of specs total room
  fault-12 e = rw e

  module _ (e : in_order 0 specs ≡ true) where
    pub fault-13 : plain specs ≡ false → 13 ≡ fault_of specs total room
    fault-13 f = rw (e, f)

    module _ (f : plain specs ≡ true) where
      pub fault-14 : room < total → 14 ≡ fault_of specs total room
      fault-14 h = rw (e, f, lt-ltb room total h)

      pub fault-15 : total < room → 15 ≡ fault_of specs total room
      fault-15 h = let g : total ≤ room = omega arith in rw (e, f, le-ltb room total g, lt-ltb total room h)

      pub fault-none : total ≤ room → room ≤ total → 0 ≡ fault_of specs total room
      fault-none g h = rw (e, f, le-ltb room total g, le-ltb total room h)

-- a fault is what is judged, and where there is none the table stands
abbrev Judged : Tab → ℕ → Tab → Type 0
Judged t f j = ((f ≡ 0 → ⊥) → faulty f 0 ≡ j) × (f ≡ 0 → t ≡ j)

judged-cases : (t : Tab) (a b c d : Bool)
    → Judged t (cond a 12 (cond b 13 (cond c 14 (cond d 15 0)))) (cond a (faulty 12 0) (cond b (faulty 13 0) (cond c (faulty 14 0) (cond d (faulty 15 0) t))))
judged-cases t true b c d = (λ h. refl, λ z. absurd (omega arith))
judged-cases t false true c d = (λ h. refl, λ z. absurd (omega arith))
judged-cases t false false true d = (λ h. refl, λ z. absurd (omega arith))
judged-cases t false false false true = (λ h. refl, λ z. absurd (omega arith))
judged-cases t false false false false = (λ h. absurd (h refl), λ z. refl)

none_of : (a b c d : Bool) → ◌≡◌ {A = ℕ} (cond a 12 (cond b 13 (cond c 14 (cond d 15 0)))) 0 → (c ≡ false) × (d ≡ false)
none_of true b c d z = absurd (omega arith)
none_of false true c d z = absurd (omega arith)
none_of false false true d z = absurd (omega arith)
none_of false false false true z = absurd (omega arith)
none_of false false false false z = (refl, refl)

no-fault : (specs : List ℕ) (total room : ℕ) → fault_of specs total room ≡ 0 → total ≡ room
no-fault specs total room z =
    let w = none_of (not (in_order 0 specs)) (not (plain specs)) (ltb room total) (ltb total room) z in
    omega (arith, ltb-false room total w.0, ltb-false total room w.1)

-- a sum up to a size stands for the whole sum beside what is below the size
module _ {size : ℕ} {lens starts : List ℕ} {total : ℕ} (g : Summing size lens starts total) (room : ℕ) (h : room < size) where
  over-same : ltb room total ≡ ltb room (sum lens)
  over-same = elim (dec_lt total size) [
    | yes w ↦ ap (ltb room) (g.exact w).0
    | no w ↦ lt-ltb room total (omega arith) ∙ sym (lt-ltb room (sum lens) (omega (arith, g.reached)))
  ]

  under_same : ltb total room ≡ ltb (sum lens) room
  under_same = elim (dec_lt total size) [
    | yes w ↦ ap (λ (k : ℕ). ltb k room) (g.exact w).0
    | no w ↦ le-ltb total room (omega arith) ∙ sym (le-ltb (sum lens) room (omega (arith, g.reached)))
  ]

judged-same : {size next : ℕ} {specs lens starts : List ℕ} {total : ℕ} → Summing size lens starts total → 0 < next → next ≤ size
    → Judged (tab specs lens next) (fault_of specs total (size - next)) (judged size (tab specs lens next))
judged-same {size} {next} {specs} {lens} {starts} {total} g a b =
    let h : size - next < size = omega arith in
    rw (over-same g (size - next) h, under_same g (size - next) h)
    (judged-cases (tab specs lens next) (not (in_order 0 specs)) (not (plain specs)) (ltb (size - next) (sum lens)) (ltb (sum lens) (size - next)))

-- ---- the rows that rows_at gives
abbrev RowsOk : ℕ → ℕ → Tab → Type 0
RowsOk n size (tab specs lens next) = (length specs ≡ n) × (length lens ≡ n) × (next ≤ size)
RowsOk n size (faulty number place) = 0 < number

row_ok : (n size spec len : ℕ) (t : Tab) → RowsOk n size t → RowsOk (suc n) size (with_row spec len t)
row_ok n size spec len (tab specs lens next) h = (ap suc h.0, ap suc h.1, h.2)
row_ok n size spec len (faulty number place) h = h

rows_ok : (n : ℕ) (s : List ℕ) (p : ℕ) → p ≤ length s → RowsOk n (length s) (rows_at n s p)
unfolding rows_at
rows_ok zero s p h = (refl, refl, h)
rows_ok (suc n) s p h =
    number_by (RowsOk (suc n) (length s)) (u32_at s p) _
    (λ spec q e. number_by (RowsOk (suc n) (length s)) (u64_at s q) _
    (λ len r f. row_ok n (length s) spec len (rows_at n s r) (rows_ok n s r (u64-next s q len r f).1))
    (λ r place f. u64-fault s q r place f))
    (λ r place e. u32-fault s p r place e)

-- ---- read_table: its ways out
module _ {s : List ℕ} {n q : ℕ} {t : Table} {p total i : ℕ} (g : Filling s q n t p total i) where
  table-rows : judged (length s) (rows_at n s q) ≡ parse s
  unfolding parse
  table-rows = rw (g.counted, le-ltb 64 n g.few)

  pub table-bad : i < n → {number place : ℕ} → ((k : ℕ) → rows_at (suc k) s p ≡ faulty number place) → faulty number place ≡ parse s
  table-bad k w = ap (judged (length s)) (going-bad g.going k w) ∙ table-rows

  -- the rows after the last turn
  module _ (m : n ≤ i) where
    ended : i ≡ n
    ended = omega (arith, g.going.within)

    going_end : tab (take n t.specs) (take n t.lens) p ≡ rows_at n s q
    unfolding rows_at
    going_end =
        let z : n - i ≡ 0 = omega arith in
        rw (← g.going.rest, z, ended) (simp append-nil)

    judging : Judged (tab (take n t.specs) (take n t.lens) p) (fault_of (take n t.specs) total (length s - p)) (parse s)
    judging =
        let w = rw ended at g.summing in
        rw (← table-rows, ← going_end) (judged-same w g.begun g.inside)

    pub table-fault : (fault_of (take n t.specs) total (length s - p) ≡ 0 → ⊥)
        → faulty (fault_of (take n t.specs) total (length s - p)) 0 ≡ parse s
    table-fault z = judging.0 z

    pub table-out : fault_of (take n t.specs) total (length s - p) ≡ 0
        → ◌≡◌ {A = TableAnswer} (record { table = t; number = 0; place = 0; start = p }) (opened (parse s))
    table-out z =
        let w = rw ended at g.summing in
        let a = rw ended at g.going.specs-free in
        let b = rw ended at g.starts-free in
        let c = rw ended at g.going.lens-free in
        let x : total < length s = omega (arith, no-fault (take n t.specs) total (length s - p) z, g.begun, g.inside) in
        let l : length (take n t.specs) ≡ n = length-take-le n t.specs (omega (arith, a.long, g.few)) in
        let y : t.starts ≡ pad (starts_from 0 (take n t.lens)) = used-pad t.starts n g.few b ∙ ap pad (w.exact x).1 in
        rw (← judging.1 z, ← used-pad t.specs n g.few a, ← y, ← used-pad t.lens n g.few c, l, ← g.many)

-- ---- a table that parse gives, for every block
abbrev pub ParseOk : ℕ → Tab → Type 0
ParseOk size (tab specs lens next) = (length specs ≤ 64) × (length lens ≡ length specs) × (next + sum lens ≡ size)
ParseOk size (faulty number place) = 0 < number

judged-ok : (n size : ℕ) (t : Tab) → n ≤ 64 → RowsOk n size t → ParseOk size (judged size t)
judged-ok n size (faulty number place) h r = r
judged-ok n size (tab specs lens next) h r =
    cond-by (ParseOk size) (not (in_order 0 specs)) (λ e. omega arith)
    (λ e. cond-by (ParseOk size) (not (plain specs)) (λ f. omega arith)
    (λ f. cond-by (ParseOk size) (ltb (size - next) (sum lens)) (λ g. omega arith)
    (λ g. cond-by (ParseOk size) (ltb (sum lens) (size - next)) (λ k. omega arith)
    (λ k. (
      omega (arith, r.0),
      omega (arith, r.0, r.1),
      omega (arith, r.2, ltb-false (size - next) (sum lens) g, ltb-false (sum lens) (size - next) k),
    )))))

pub parse-ok : (s : List ℕ) → ParseOk (length s) (parse s)
unfolding parse
parse-ok s =
    number_by (ParseOk (length s)) (u64_at s 0) _
    (λ n q e. cond-by (ParseOk (length s)) (ltb 64 n) (λ h. omega arith)
    (λ h. judged-ok n (length s) (rows_at n s q) (ltb-false 64 n h) (rows_ok n s q (u64-next s 0 n q e).1)))
    (λ r place e. u64-fault s 0 r place e)

-- ---- sums and starts
pub sum_to : (lens : List ℕ) (i : ℕ) → i < length lens → sum (take i lens) + get_or lens i 0 ≤ sum lens
unfolding sum
sum_to [] i h = omega arith
sum_to (len ∷ lens) zero h = omega arith
sum_to (len ∷ lens) (suc i) h = let r = sum_to lens i (omega arith) in omega (arith, r)

starts-long : (k : ℕ) (lens : List ℕ) → length (starts_from k lens) ≡ length lens
unfolding starts_from
starts-long k [] = refl
starts-long k (len ∷ lens) = ap suc (starts-long (k + len) lens)

start_is : (k : ℕ) (lens : List ℕ) (i : ℕ) → i < length lens → get_or (starts_from k lens) i 0 ≡ k + sum (take i lens)
unfolding starts_from sum
start_is k [] i h = omega arith
start_is k (len ∷ lens) zero h = omega arith
start_is k (len ∷ lens) (suc i) h = let r = start_is (k + len) lens i (omega arith) in omega (arith, r)

-- ---- what read_table's answer says to callers: a refusal, or an accepted table
open-bad-case : (t : Tab) (o : TableAnswer) → o ≡ opened t → (o.number ≡ 0 → ⊥) → t ≡ faulty o.number o.place
open-bad-case (tab specs lens next) o e h = absurd (h (ap (λ (x : TableAnswer). x.number) e))
open-bad-case (faulty number place) o e h = sym (ap (λ (x : TableAnswer). faulty x.number x.place) e)

pub open-bad : (s : List ℕ) {o : TableAnswer} → o ≡ opened (parse s) → (o.number ≡ 0 → ⊥) → parse s ≡ faulty o.number o.place
open-bad s {o} e h = open-bad-case (parse s) o e h

-- its rows
abbrev pub specs_of : TableAnswer → List ℕ
specs_of o = take o.table.rows o.table.specs

abbrev pub lens_of : TableAnswer → List ℕ
lens_of o = take o.table.rows o.table.lens

pub record Open (s : List ℕ) (o : TableAnswer) : Type 0 where
  pub is : parse s ≡ tab (specs_of o) (lens_of o) o.start
  pub small : o.table.rows ≤ 64
  pub specs_long : length o.table.specs ≡ 64
  pub lens_long : length o.table.lens ≡ 64
  pub fills : o.start + sum (lens_of o) ≡ length s
  pub starts-are : (i : ℕ) → i < o.table.rows → get_or o.table.starts i 0 ≡ sum (take i (lens_of o))

open-case : (s : List ℕ) (t : Tab) (o : TableAnswer) → parse s ≡ t → ParseOk (length s) t → o ≡ opened t → o.number ≡ 0 → Open s o
open-case s (tab specs lens next) o p h e z =
    let n : o.table.rows ≡ length specs = ap (λ (x : TableAnswer). x.table.rows) e in
    let a : o.table.specs ≡ pad specs = ap (λ (x : TableAnswer). x.table.specs) e in
    let b : o.table.lens ≡ pad lens = ap (λ (x : TableAnswer). x.table.lens) e in
    let t : o.table.starts ≡ pad (starts_from 0 lens) = ap (λ (x : TableAnswer). x.table.starts) e in
    let q : o.start ≡ next = ap (λ (x : TableAnswer). x.start) e in
    let a' : specs_of o ≡ specs = rw (n, a) (take-pad (length specs) specs refl) in
    let b' : lens_of o ≡ lens = rw (n, b) (take-pad (length specs) lens h.1) in
    record {
      is = rw (a', b', q) p;
      small = omega (arith, h.0);
      specs_long = rw a (pad-long specs h.0);
      lens_long = rw b (pad-long lens (omega (arith, h.0, h.1)));
      fills = rw (b', q) h.2;
      starts-are = λ i w. rw (b', t)
          (pad-at (starts_from 0 lens) i (omega (arith, starts-long 0 lens, h.1, n))
          ∙ (let r = start_is 0 lens i (omega (arith, h.1, n)) in omega (arith, r)));
    }
open-case s (faulty number place) o p h e z =
    let f : o.number ≡ number = ap (λ (x : TableAnswer). x.number) e in
    absurd (omega arith)

pub open-good : (s : List ℕ) {o : TableAnswer} → o ≡ opened (parse s) → o.number ≡ 0 → Open s o
open-good s {o} e z = open-case s (parse s) o refl (parse-ok s) e z

module _ {s : List ℕ} {o : TableAnswer} (g : Open s o) where
  pub rows_long : length (specs_of o) ≡ o.table.rows
  rows_long = length-take-le o.table.rows o.table.specs (omega (arith, g.small, g.specs_long))

  pub lens-many : length (lens_of o) ≡ o.table.rows
  lens-many = length-take-le o.table.rows o.table.lens (omega (arith, g.small, g.lens_long))

  module _ {i : ℕ} (h : i < o.table.rows) where
    pub len-at : get_or (lens_of o) i 0 ≡ get_or o.table.lens i 0
    len-at = get_or-take o.table.rows o.table.lens i 0 h

    -- a column lies within its block
    pub column-in : o.start + get_or o.table.starts i 0 + get_or o.table.lens i 0 ≤ length s
    column-in =
        let t = sum_to (lens_of o) i (omega (arith, lens-many)) in
        omega (arith, t, g.starts-are i h, g.fills, len-at)
