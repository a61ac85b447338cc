-- Each call keeps what is stored true: opening, counting, and an edit over the kind of column. Assumes nothing.
use Prim.Native.Nat.{ℕ, zero, suc, ◌+◌, ◌-◌, ◌≤◌, ◌<◌}
use mathlib.Core.Path.{◌≡◌, refl, sym, ap, ◌∙◌, subst}
use mathlib.Core.List.{List, ◌++◌}
use mathlib.Core.Option.{Option, none, some}
use mathlib.Core.Bool.{Bool, true, false, cond, ◌&&◌}
use mathlib.Core.Logic.{◌⊎◌, inl, inr, ⊎_elim}
use native.Mathlib.Decide.{dec_lt}
use native.Mathlib.Omega.{arith}
use lib.Dec.{eqb, ltb}
use lib.ListN.{length, get_or, set, take, drop, replicate, length-take, get_or-append, get_or-eq_default}
use lib.Seq.{get_or-set_same, get_or-set_other, get_or-take, take_at, get_or-append-add}
use borrow.Author.Tests.{eq-eqb, eqb-true, ltb-true, lt-ltb}
use Rattle.leb128.specs.Answer.{Answer, done, refused}
use Rattle.column_specification.specs.Specification.{type_of}
use Rattle.encoding.specs.Walk.{outcome}
use Rattle.encoding.specs.Limit.{limit}
use Rattle.encoding.proofs.Faults.{Numbered}
use Rattle.raw_column.specs.Table.{Tab, tab, faulty, parse}
use Rattle.raw_column.specs.Rows.{pad, table_of, opened}
use Rattle.raw_column.specs.declared.Table.{Table}
use Rattle.raw_column.proofs.Opening.{ParseOk, parse-ok}
use Rattle.column_part.specs.Part.{no_part, row_part, part_in, part_at, bytes_of, Part, start_of}
use Rattle.slots.specs.Splice.{spliced}
use Rattle.splice.specs.Kind.{Kind}
use Rattle.splice.specs.Edit.{Edited, stop, late, accepted, end_in, serves, edit_in, edited, readings_of, out_left}
use Rattle.splice.specs.Steps.{count_as}
use Rattle.splice.specs.Lent.{Lent}
use Rattle.splice.specs.declared.ColumnKind.{ColumnKind}
use Rattle.splice.specs.declared.ColumnKind.TheVariants as kind
use Rattle.splice.specs.declared.End.{End}
use Rattle.splice.proofs.Isolated.{Right, accepted-right, accepted-good, Kept, accepted-kept}
use Rattle.splice.proofs.Numbered.{SomeStop, SomeRefused, edited-some}
use Rattle.text_encoder.proofs.Refilling.{take-bytes, drop-bytes}
use Rattle.counted_table.specs.Calls.{spliced_as}
use Rattle.counted_table.specs.declared.edits.CountedSpliced.{CountedSpliced}
use Rattle.counted_table.specs.Counts.{uncounted, counted_opened, stored_at, stored, agree_to, fits, lent_in, lent_tab}
use Rattle.counted_table.specs.Counts.{served, count_of, or_counted, row_count, count_part, count_in, counted_as, counted}
use Rattle.counted_table.specs.Reached.{TrueOf}
use Rattle.counted_table.proofs.Storing.{pad-long}
use Rattle.counted_table.specs.declared.CountedTable.{CountedTable}

-- ---- what a table has stored

zeros-at : (n i : ℕ) → ◌≡◌ {A = ℕ} (get_or (replicate n 0) i 0) 0
zeros-at zero i = refl
zeros-at (suc n) zero = refl
zeros-at (suc n) (suc i) = zeros-at n i

-- a place of a padded list is that of the list
pub pad-at : (xs : List ℕ) (n i : ℕ) → i < n → get_or (pad (take n xs)) i 0 ≡ get_or xs i 0
unfolding pad
pad-at xs n i h =
    elim (dec_lt i (length (take n xs))) [
      | yes l ↦ get_or-append (take n xs) (replicate (64 - length (take n xs)) 0) 0 i l ∙ get_or-take n xs i 0 h
      | no l ↦ (
          let k : length (take n xs) + (i - length (take n xs)) ≡ i = omega arith in
          ap (λ (j : ℕ). get_or (take n xs ++ replicate (64 - length (take n xs)) 0) j 0) (sym k)
          ∙ get_or-append-add (take n xs) (replicate (64 - length (take n xs)) 0) (i - length (take n xs)) 0
          ∙ zeros-at (64 - length (take n xs)) (i - length (take n xs))
          ∙ sym (get_or-eq_default xs 0 (omega (arith, length-take n xs))))
    ]

pub none-stored : (t : Table) (i : ℕ) → stored_at (uncounted t) i ≡ none
unfolding stored_at
none-stored t i = rw (eq-eqb (get_or (replicate 64 0) i 0) 0 (zeros-at 64 i))

module _ (lent : CountedTable) (t : Table) (position n : ℕ) where
  pub stored-own : position < 64 → stored_at (stored lent t position n) position ≡ some n
  unfolding stored_at stored
  stored-own h =
      let a : get_or (set (pad (take t.rows lent.known)) position 1) position 0 ≡ 1 =
      get_or-set_same (pad (take t.rows lent.known)) position 1 0 (omega (arith, pad-long (take t.rows lent.known))) in
      let b : get_or (set (pad (take t.rows lent.counts)) position n) position 0 ≡ n =
      get_or-set_same (pad (take t.rows lent.counts)) position n 0 (omega (arith, pad-long (take t.rows lent.counts))) in
      rw (a, b)

  pub stored_other : (i : ℕ) → i < t.rows → (i ≡ position → ⊥) → stored_at (stored lent t position n) i ≡ stored_at lent i
  unfolding stored_at stored
  stored_other i h d =
      let a : get_or (set (pad (take t.rows lent.known)) position 1) i 0 ≡ get_or lent.known i 0 =
      get_or-set_other (pad (take t.rows lent.known)) position i 1 0 d ∙ pad-at lent.known t.rows i h in
      let b : get_or (set (pad (take t.rows lent.counts)) position n) i 0 ≡ get_or lent.counts i 0 =
      get_or-set_other (pad (take t.rows lent.counts)) position i n 0 d ∙ pad-at lent.counts t.rows i h in
      rw (a, b)

-- ---- opening
pub opened-true : (s : List ℕ) → TrueOf s (counted_opened (parse s)).table
opened-true s =
    record { counts = λ i n h e. let z : ◌≡◌ {A = ℕ} 0 1 = cc (none-stored (opened (parse s)).table i) in absurd (omega arith) }

-- ---- counting

-- rows that agree are as many
same-many : (a b : Table) → fits a b ≡ true → a.rows ≡ b.rows
unfolding fits
same-many a b h = go (eqb a.rows b.rows) refl h
  where
    go : (t : Bool) → eqb a.rows b.rows ≡ t → (t && agree_to b.rows a b) ≡ true → a.rows ≡ b.rows
    go true e k = eqb-true a.rows b.rows e
    go false e k = let z : ◌≡◌ {A = ℕ} 0 1 = cc in absurd (omega arith)

-- where a row lies, and its specification
spec_at : (s specs lens : List ℕ) (next i : ℕ) → parse s ≡ tab specs lens next → i < length specs → (part_at s i).spec ≡ get_or specs i 0
unfolding part_at
spec_at s specs lens next i e h = rw (e, lt-ltb i (length specs) h)

part-at : (s specs lens : List ℕ) (next i : ℕ) → parse s ≡ tab specs lens next → ltb i (length specs) ≡ true → row_part specs lens next i ≡ part_at s i
unfolding part_at
part-at s specs lens next i e h = rw (e, h)

-- one of two indices
same_or_not : (i j : ℕ) → (i ≡ j) ⊎ (i ≡ j → ⊥)
same_or_not i j = elim (dec_lt i j) [ yes l ↦ inr (λ e. omega arith) | no l ↦ elim (dec_lt j i) [ yes m ↦ inr (λ e. omega arith) | no m ↦ inl (omega arith) ] ]

module _ (s : List ℕ) (t : CountedTable) (true_of : TrueOf s t) (position : ℕ) where
  -- a count was told: the row is there, the table fits, and the count is the stored one or the column's
  record Told (n : ℕ) : Type 0 where
    specs : List ℕ
    lens : List ℕ
    next : ℕ
    is : parse s ≡ tab specs lens next
    few : length specs ≤ 64
    fit : fits t.table (table_of specs lens) ≡ true
    there : position < length specs
    row : row_count (type_of (part_at s position).spec) (stored_at t position) (bytes_of s (part_at s position)) ≡ done n

  told : (n : ℕ) → count_in t position s (lent_tab t s) ≡ done n → Told n
  unfolding count_in lent_tab
  told n = go (parse s) refl (parse-ok s)
    where
      in_row : (specs lens : List ℕ) (next : ℕ) (b : Bool) → ltb position (length specs) ≡ b → parse s ≡ tab specs lens next → length specs ≤ 64
          → fits t.table (table_of specs lens) ≡ true → count_part t position s (cond b (row_part specs lens next position) (no_part 16 0)) ≡ done n → Told n
      in_row specs lens next false l e k f h = let z : ◌≡◌ {A = ℕ} 0 1 = cc in absurd (omega arith)
      in_row specs lens next true l e k f h =
          record {
            specs = specs;
            lens = lens;
            next = next;
            is = e;
            few = k;
            fit = f;
            there = ltb-true position (length specs) l;
            row = ap (λ (p : Part). row_count (type_of p.spec) (stored_at t position) (bytes_of s p)) (sym (part-at s specs lens next position e l)) ∙ h;
          }

      in_table : (specs lens : List ℕ) (next : ℕ) (b : Bool) → fits t.table (table_of specs lens) ≡ b → parse s ≡ tab specs lens next → length specs ≤ 64
          → count_part t position s (part_in position (cond b (tab specs lens next) (faulty 25 0))) ≡ done n → Told n
      in_table specs lens next false f e k h = let z : ◌≡◌ {A = ℕ} 0 1 = cc in absurd (omega arith)
      in_table specs lens next true f e k h = in_row specs lens next (ltb position (length specs)) refl e k f h

      refuses : (number place : ℕ) (b : Bool) (x : Answer) → eqb number 0 ≡ b → 0 < number → cond b x (refused number place) ≡ done n → Told n
      refuses number place true x e k h = absurd (omega (arith, eqb-true number 0 e))
      refuses number place false x e k h = let z : ◌≡◌ {A = ℕ} 0 1 = cc in absurd (omega arith)

      go : (p : Tab) → parse s ≡ p → ParseOk (length s) p → count_part t position s (part_in position (lent_in t p)) ≡ done n → Told n
      go (faulty number place) e k h = refuses number place (eqb number 0) _ refl k h
      go (tab specs lens next) e k h = in_table specs lens next (fits t.table (table_of specs lens)) refl e k.0 h

  -- so the column counts as it
  told-true : (n : ℕ) → Told n → count_of (type_of (part_at s position).spec) (bytes_of s (part_at s position)) ≡ done n
  told-true n q = go (served (type_of (part_at s position).spec)) (stored_at t position) refl q.row
    where
      go : (b : Bool) (o : Option ℕ) → stored_at t position ≡ o
          → cond b (or_counted o (count_of (type_of (part_at s position).spec) (bytes_of s (part_at s position)))) (refused 17 0) ≡ done n
          → count_of (type_of (part_at s position).spec) (bytes_of s (part_at s position)) ≡ done n
      go false o e h = let z : ◌≡◌ {A = ℕ} 0 1 = cc in absurd (omega arith)
      go true none e h = h
      go true (some k) e h =
          true_of.counts position k (omega (arith, q.there, same-many t.table (table_of q.specs q.lens) q.fit)) e ∙ h

  store_true : (n : ℕ) (q : Told n) → TrueOf s (stored t (table_of q.specs q.lens) position n)
  unfolding stored
  store_true n q =
      let T = table_of q.specs q.lens in
      let m = same-many t.table T q.fit in
      record {
        counts = λ i k h e. ⊎_elim
            (λ (p : i ≡ position).
            let a : stored_at (stored t T position n) position ≡ some k = ap (stored_at (stored t T position n)) (sym p) ∙ e in
            let b : n ≡ k = cc (stored-own t T position n (omega (arith, q.there, q.few))) in
            ap (λ (j : ℕ). count_of (type_of (part_at s j).spec) (bytes_of s (part_at s j))) p ∙ told-true n q ∙ ap done b)
            (λ d. true_of.counts i k (omega (arith, h, m)) (sym (stored_other t T position n i h d) ∙ e))
            (same_or_not i position);
      }

  -- the table that it was stored in
  read_table : {n : ℕ} (q : Told n) → (opened (lent_tab t s)).table ≡ table_of q.specs q.lens
  unfolding lent_tab
  read_table q =
      ap (λ (p : Tab). (opened (lent_in t p)).table) q.is
      ∙ ap (λ (b : Bool). (opened (cond b (tab q.specs q.lens q.next) (faulty 25 0))).table) q.fit

  pub count-true : TrueOf s (counted t s position).table
  unfolding counted
  count-true = go (count_in t position s (lent_tab t s)) refl
    where
      go : (a : Answer) → count_in t position s (lent_tab t s) ≡ a → TrueOf s (counted_as t position (lent_tab t s) a).table
      go (refused number place) e = true_of
      go (done n) e = let q = told n e in subst (λ (x : Table). TrueOf s (stored t x position n)) (sym (read_table q)) (store_true n q)

-- ---- editing

-- a column of a kind that an edit serves is counted as that kind
kind-counts : (k : ColumnKind) (spec : ℕ) (c : List ℕ) → serves k spec ≡ true → count_of (type_of spec) c ≡ count_as k c
unfolding serves count_of count_as
kind-counts kind.Integer spec c h = rw h
kind-counts kind.Delta spec c h = rw (eqb-true (type_of spec) 3 h)
kind-counts kind.Boolean spec c h = rw (eqb-true (type_of spec) 4 h)
kind-counts kind.Text spec c h = rw (eqb-true (type_of spec) 5 h)

-- what the theorem needs of a kind: it counts as it reads, and lists that the code can hold are written so that they are counted as `readings_of` says
pub record Counts {A : Type 0} (K : Kind A) (Good : List A → Type 0) : Type 0 where
  pub numbered : (c : List ℕ) → Numbered (K.reads c).ending
  pub counts : (c : List ℕ) → count_as K.kind c ≡ outcome (K.reads c)
  pub back : (xs : List A) → Good xs → K.wide xs ≡ none → length xs ≤ limit → outcome (K.reads (K.writes xs)) ≡ done (readings_of K xs)
  pub read : (c : List ℕ) → ((i : ℕ) → get_or c i 0 < 256) → Good (K.reads c).readings
  pub parts : (xs : List A) (start end : ℕ) (new : List A) → Good xs → Good new → Good (spliced xs start end new)

module _ {A : Type 0} {K : Kind A} {Good : List A → Type 0} (W : Counts K Good) (s : List ℕ) (t : CountedTable) (true_of : TrueOf s t)
    (position start : ℕ) (end : End) (given : Answer) (new : List A) (slots : ℕ) (out : List ℕ) (p : Lent s) (q : Lent out)
    (good : (g : ℕ) → given ≡ done g → Good new) (some-given : SomeRefused given) where
  abbrev plain : Edited A
  plain = edited K s position start end given new slots (length out)

  -- an accepted edit, by the block's table
  module _ (specs lens : List ℕ) (next : ℕ) (is : parse s ≡ tab specs lens next) (few : length specs ≤ 64) (fit : fits t.table (table_of specs lens) ≡ true)
      (old : ℕ) (xs : List A) (block : List ℕ) (took : plain ≡ accepted old xs block) where
    right : Right K s specs lens next position start end new (length out) old xs block
    right = accepted-right K s specs lens next position start end new (length out) slots given old xs block is took

    kept : Kept K s specs lens next position start end new (length out) (K.writes xs) block
    kept = accepted-kept K s specs lens next position start end new (length out) slots given old xs block p.short q.short is took

    list-good : Good xs
    list-good =
        let g = accepted-good K s specs lens next position start end new (length out) slots given old xs block took in
        let c = take (get_or lens position 0) (drop (start_of lens next position) s) in
        let r = W.read c (take-bytes (get_or lens position 0) (drop (start_of lens next position) s) (drop-bytes (start_of lens next position) s p.bytes)) in
        subst Good (sym right.list) (W.parts (K.reads c).readings start (end_in end old) new r (good g.0 g.1))

    own-count : count_of (type_of (part_at block position).spec) (bytes_of block (part_at block position)) ≡ done (readings_of K xs)
    own-count =
        let lens' = set lens position (length (K.writes xs)) in
        ap (λ (k : ℕ). count_of (type_of k) (bytes_of block (part_at block position)))
        (spec_at block specs lens' _ position kept.replaced.table right.served)
        ∙ ap (count_of (type_of (get_or specs position 0))) kept.chosen
        ∙ kind-counts K.kind (get_or specs position 0) (K.writes xs) right.kind-is
        ∙ W.counts (K.writes xs)
        ∙ W.back xs list-good right.narrow right.few

    pub accepted-true : TrueOf block (stored t (opened (parse block)).table position (readings_of K xs))
    unfolding stored
    accepted-true =
        let lens' = set lens position (length (K.writes xs)) in
        let T = (opened (parse block)).table in
        let n = readings_of K xs in
        let rows : T.rows ≡ length specs = ap (λ (x : Tab). (opened x).table.rows) kept.replaced.table in
        let many = same-many t.table (table_of specs lens) fit in
        record {
          counts = λ i k h e. ⊎_elim
              (λ (d : i ≡ position).
              let a : stored_at (stored t T position n) position ≡ some k = ap (stored_at (stored t T position n)) (sym d) ∙ e in
              let b : n ≡ k = cc (stored-own t T position n (omega (arith, right.served, few))) in
              ap (λ (j : ℕ). count_of (type_of (part_at block j).spec) (bytes_of block (part_at block j))) d ∙ own-count ∙ ap done b)
              (λ d.
              let l : i < length specs = omega (arith, h, rows) in
              ap (λ (j : ℕ). count_of (type_of j) (bytes_of block (part_at block i)))
              (spec_at block specs lens' _ i kept.replaced.table l ∙ sym (spec_at s specs lens next i is l))
              ∙ ap (count_of (type_of (part_at s i).spec)) (kept.others i d)
              ∙ true_of.counts i k (omega (arith, l, many)) (sym (stored_other t T position n i h d) ∙ e))
              (same_or_not i position);
        }

  abbrev lent_edit : Edited A
  lent_edit = edit_in K s position start end given new slots (length out) (lent_tab t s)

  -- any call, as it answers
  pub edit-true : {out' : List ℕ} {r : CountedSpliced} → r ≡ spliced_as K t position lent_edit → out' ≡ out_left lent_edit out → r.number ≡ 0
      → TrueOf (take r.len out') r.table
  unfolding lent_tab edited
  edit-true {out'} {r} a o z = in_table (parse s) refl (parse-ok s) a o
    where
      by-edit : (specs lens : List ℕ) (next : ℕ) → parse s ≡ tab specs lens next → length specs ≤ 64 → fits t.table (table_of specs lens) ≡ true
          → (x : Edited A) → edit_in K s position start end given new slots (length out) (tab specs lens next) ≡ x → SomeStop x
          → r ≡ spliced_as K t position x → out' ≡ out_left x out → TrueOf (take r.len out') r.table
      by-edit specs lens next e few f (stop number place) h y a o = absurd (omega (arith, ap (λ (c : CountedSpliced). c.number) a, y, z))
      by-edit specs lens next e few f (late number place old xs) h y a o = absurd (omega (arith, ap (λ (c : CountedSpliced). c.number) a, y, z))
      by-edit specs lens next e few f (accepted old xs block) h y a o =
          let k : r.len ≡ length block = ap (λ (c : CountedSpliced). c.len) a in
          let b : take r.len out' ≡ block = ap (take r.len) o ∙ take_at block (drop (length block) out) r.len (sym k) in
          let took : plain ≡ accepted old xs block = ap (edit_in K s position start end given new slots (length out)) e ∙ h in
          let u = accepted-true specs lens next e few f old xs block took in
          subst (λ (w : List ℕ). TrueOf w r.table) (sym b)
          (subst (λ (w : CountedTable). TrueOf block w) (sym (ap (λ (c : CountedSpliced). c.table) a)) u)

      in_table : (m : Tab) → parse s ≡ m → ParseOk (length s) m
          → r ≡ spliced_as K t position (edit_in K s position start end given new slots (length out) (lent_in t m))
          → out' ≡ out_left (edit_in K s position start end given new slots (length out) (lent_in t m)) out → TrueOf (take r.len out') r.table
      in_table (faulty number place) e k a o = absurd (omega (arith, ap (λ (c : CountedSpliced). c.number) a, k, z))
      in_table (tab specs lens next) e k a o = by-fit (fits t.table (table_of specs lens)) refl a o
        where
          by-fit : (b : Bool) → fits t.table (table_of specs lens) ≡ b
              → r ≡ spliced_as K t position (edit_in K s position start end given new slots (length out) (cond b (tab specs lens next) (faulty 25 0)))
              → out' ≡ out_left (edit_in K s position start end given new slots (length out) (cond b (tab specs lens next) (faulty 25 0))) out
              → TrueOf (take r.len out') r.table
          by-fit false f a o = absurd (omega (arith, ap (λ (c : CountedSpliced). c.number) a, z))
          by-fit true f a o =
              by-edit specs lens next e k.0 f (edit_in K s position start end given new slots (length out) (tab specs lens next)) refl
              (subst SomeStop (ap (edit_in K s position start end given new slots (length out)) e)
              (edited-some K W.numbered start end new slots (length out) s position given some-given)) a o

-- a refused one gives the table back
pub lent_back : {A : Type 0} (K : Kind A) (t : CountedTable) (position : ℕ) (x : Edited A) {r : CountedSpliced} → r ≡ spliced_as K t position x
    → (r.number ≡ 0 → ⊥) → r.table ≡ t
lent_back K t position (stop number place) a h = ap (λ (c : CountedSpliced). c.table) a
lent_back K t position (late number place old xs) a h = ap (λ (c : CountedSpliced). c.table) a
lent_back K t position (accepted old xs block) a h = absurd (h (ap (λ (c : CountedSpliced). c.number) a))
