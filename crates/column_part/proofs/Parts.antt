-- A column's part of its block: that it lies within the block, one law for each way out of the lookups, and the search for a row.
-- Assumes nothing.
use mathlib.Core.Path.{◌≡◌, subst, sym}
use mathlib.Core.List.{List}
use Prim.Native.Nat.{ℕ, suc, ◌+◌, ◌≤◌, ◌<◌, ◌^◌}
use native.Mathlib.Omega.{arith}
use lib.ListN.{length, get_or, take, drop}
use lib.Dec.{ltb}
use borrow.Author.Tests.{ltb-true, lt-ltb, le-ltb, eq-eqb, ne_eqb}
use Rattle.encoding.proofs.Lists.{cond-by}
use Rattle.raw_column.specs.Table.{Tab, tab, faulty, sum, parse}
use Rattle.column_part.specs.Part.{start_of, no_part, row_part, part_in, row_of, spec_part_in, part_at, part_for, there, nowhere, refused, sought, Part}
use Rattle.raw_column.specs.declared.TableAnswer.{TableAnswer}
use Rattle.raw_column.proofs.Opening.{next_of, none_left, ParseOk, parse-ok, sum_to, specs_of, lens_of, Open, rows_long, lens-many}

-- ---- a part lies within its block, whatever the bytes
abbrev Within : ℕ → Part → Type 0
Within size p = p.start + p.len ≤ size

part-case : (size position : ℕ) (t : Tab) → ParseOk size t → Within size (part_in position t)
part-case size position (tab specs lens next) h =
    cond-by (Within size) (ltb position (length specs))
    (λ e. omega (arith, sum_to lens position (omega (arith, ltb-true position (length specs) e, h.1)), h.2))
    (λ e. omega arith)
part-case size position (faulty number place) h = omega arith

spec-case : (size spec : ℕ) (t : Tab) → ParseOk size t → Within size (spec_part_in spec t)
spec-case size spec (tab specs lens next) h =
    cond-by (Within size) (ltb (row_of spec specs) (length specs))
    (λ e. omega (arith, sum_to lens (row_of spec specs) (omega (arith, ltb-true (row_of spec specs) (length specs) e, h.1)), h.2))
    (λ e. omega arith)
spec-case size spec (faulty number place) h = omega arith

pub part-within : (s : List ℕ) (position : ℕ) → (part_at s position).start + (part_at s position).len ≤ length s
unfolding part_at
part-within s position = part-case (length s) position (parse s) (parse-ok s)

pub spec-within : (s : List ℕ) (spec : ℕ) → (part_for s spec).start + (part_for s spec).len ≤ length s
unfolding part_for
spec-within s spec = spec-case (length s) spec (parse s) (parse-ok s)

-- the same of an answer
pub part_in_lem : (s : List ℕ) (position : ℕ) (p : Part) → p ≡ part_at s position → p.start + p.len ≤ length s
part_in_lem s position p e = subst (Within (length s)) (sym e) (part-within s position)

pub spec-in : (s : List ℕ) (spec : ℕ) (p : Part) → p ≡ part_for s spec → p.start + p.len ≤ length s
spec-in s spec p e = subst (Within (length s)) (sym e) (spec-within s spec)

-- ---- row_part, of a table that was read
module _ {s : List ℕ} {o : TableAnswer} (g : Open s o) {i : ℕ} (h : i < o.table.rows) where
  pub row-ready : length s < 2 ^ 64
      → (i < o.table.rows) × (o.table.rows ≤ 64) × (start_of (lens_of o) o.start i < 2 ^ 64) ×
      (get_or o.table.starts i 0 ≡ sum (take i (lens_of o)))
  row-ready w = (h, g.small, omega (arith, sum_to (lens_of o) i (omega (arith, lens-many g)), g.fills), g.starts-are i h)

-- ---- locate
module _ (s : List ℕ) (position : ℕ) where
  pub part-bad : {number place : ℕ} → parse s ≡ faulty number place → no_part number place ≡ part_at s position
  unfolding part_at
  part-bad e = rw e

  module _ {o : TableAnswer} (g : Open s o) where
    pub part-16 : o.table.rows ≤ position → no_part 16 0 ≡ part_at s position
    unfolding part_at
    part-16 h =
        let b : length (specs_of o) ≤ position = omega (arith, rows_long g) in
        rw (g.is, le-ltb position (length (specs_of o)) b)

    pub part-at : position < o.table.rows → row_part (specs_of o) (lens_of o) o.start position ≡ part_at s position
    unfolding part_at
    part-at h =
        let b : position < length (specs_of o) = omega (arith, rows_long g) in
        rw (g.is, lt-ltb position (length (specs_of o)) b)

-- ---- locate_spec
module _ (s : List ℕ) (spec : ℕ) where
  pub spec-bad : {number place : ℕ} → parse s ≡ faulty number place → no_part number place ≡ part_for s spec
  unfolding part_for
  spec-bad e = rw e

  pub sought-bad : {number place : ℕ} → parse s ≡ faulty number place → refused number place ≡ sought s spec
  unfolding sought
  sought-bad e = rw e

  module _ {o : TableAnswer} (g : Open s o) {i : ℕ} (e : i ≡ row_of spec (specs_of o)) where
    pub spec-none : o.table.rows ≤ i → no_part 0 0 ≡ part_for s spec
    unfolding part_for
    spec-none h =
        let b : length (specs_of o) ≤ i = omega (arith, rows_long g) in
        rw (g.is, ← e, le-ltb i (length (specs_of o)) b)

    pub spec_at : i < o.table.rows → row_part (specs_of o) (lens_of o) o.start i ≡ part_for s spec
    unfolding part_for
    spec_at h =
        let b : i < length (specs_of o) = omega (arith, rows_long g) in
        rw (g.is, ← e, lt-ltb i (length (specs_of o)) b)

    pub sought-none : o.table.rows ≤ i → nowhere ≡ sought s spec
    unfolding sought
    sought-none h =
        let b : length (specs_of o) ≤ i = omega (arith, rows_long g) in
        rw (g.is, ← e, le-ltb i (length (specs_of o)) b)

    pub sought_at : i < o.table.rows → there (row_part (specs_of o) (lens_of o) o.start i) ≡ sought s spec
    unfolding sought
    sought_at h =
        let b : i < length (specs_of o) = omega (arith, rows_long g) in
        rw (g.is, ← e, lt-ltb i (length (specs_of o)) b)

-- ---- row_of: the search for a row
module _ (spec : ℕ) (xs : List ℕ) (n i : ℕ) (h : n ≤ length xs) (t : i < n) where
  pub row-hit : get_or xs i 0 ≡ spec → row_of spec (drop i (take n xs)) ≡ 0
  unfolding row_of
  row-hit e = rw (next_of xs n i h t, eq-eqb (get_or xs i 0) spec e)

  pub row-miss : (get_or xs i 0 ≡ spec → ⊥) → row_of spec (drop i (take n xs)) ≡ suc (row_of spec (drop (i + 1) (take n xs)))
  unfolding row_of
  row-miss e = rw (next_of xs n i h t, ne_eqb (get_or xs i 0) spec e)

pub row-end : (spec : ℕ) (xs : List ℕ) (n i : ℕ) → n ≤ i → row_of spec (drop i (take n xs)) ≡ 0
unfolding row_of
row-end spec xs n i h = rw (none_left xs n i h)
