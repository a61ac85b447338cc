-- Rows that agree, counts that are stored and looked up, and columns counted by their type. Assumes nothing.
use Prim.Native.Nat.{ℕ, zero, suc, ◌+◌, ◌-◌, ◌≤◌, ◌<◌, max}
use mathlib.Core.Path.{◌≡◌, refl, sym, ap, ◌∙◌}
use mathlib.Core.List.{List, [], ◌∷◌, ◌++◌, append_assoc}
use mathlib.Core.Option.{none, some}
use mathlib.Core.Bool.{Bool, true, false, ◌&&◌}
use native.Mathlib.Decide.{dec_lt}
use native.Mathlib.Numerals.{add-one}
use native.Mathlib.Omega.{arith}
use lib.Dec.{eqb}
use lib.ListN.{length, get_or, set, take, replicate, length-append, length-take, length-replicate, get_or-eq_default}
use lib.Seq.{take-suc, set_at, length-take-le}
use borrow.Author.Tests.{eq-eqb, ne_eqb}
use Rattle.encoding.specs.Column.{trace}
use Rattle.encoding.specs.Walk.{outcome}
use Rattle.rle_decoder.specs.Word.{u64_e}
use Rattle.delta_decoder.specs.Sums.{delta_trace}
use Rattle.boolean_decoder.specs.Turns.{bool_trace}
use Rattle.text.specs.Text.{text_e}
use Rattle.raw_column.specs.Rows.{pad}
use Rattle.raw_column.specs.declared.Table.{Table}
use Rattle.counted_table.specs.Counts.{stored_at, stored, row_agrees, agree_to, fits, served, count_of}
use Rattle.counted_table.specs.declared.CountedTable.{CountedTable}

-- ---- rows that agree

and-false : (a : Bool) → (a && false) ≡ false
and-false true = refl
and-false false = refl

module _ (a b : Table) where
  pub agree-more : (i : ℕ) → agree_to i a b ≡ true → row_agrees i a b ≡ true → agree_to (i + 1) a b ≡ true
  unfolding agree_to
  agree-more i h r = rw (add-one, r, h)

  -- a row that differs, whatever the others are
  pub agree-not : (i n : ℕ) → i < n → row_agrees i a b ≡ false → agree_to n a b ≡ false
  unfolding agree_to
  agree-not i zero h r = absurd (omega arith)
  agree-not i (suc n) h r =
      elim (dec_lt i n) [
        | yes l ↦ ap (λ (x : Bool). row_agrees n a b && x) (agree-not i n l r) ∙ and-false (row_agrees n a b)
        | no l ↦ (let e : i ≡ n = omega arith in ap (λ (k : ℕ). row_agrees k a b && agree_to n a b) (sym e) ∙ ap (λ (x : Bool). x && agree_to n a b) r)
      ]

  pub specs-differ : (i : ℕ) → (get_or a.specs i 0 ≡ get_or b.specs i 0 → ⊥) → row_agrees i a b ≡ false
  specs-differ i h = rw (ne_eqb _ _ h)

  pub starts-differ : (i : ℕ) → (get_or a.starts i 0 ≡ get_or b.starts i 0 → ⊥) → row_agrees i a b ≡ false
  starts-differ i h = rw (ne_eqb _ _ h) (and-false (eqb (get_or a.specs i 0) (get_or b.specs i 0)))

  pub lens-differ : (i : ℕ) → (get_or a.lens i 0 ≡ get_or b.lens i 0 → ⊥) → row_agrees i a b ≡ false
  lens-differ i h =
      rw (ne_eqb _ _ h, and-false (eqb (get_or a.starts i 0) (get_or b.starts i 0))) (and-false (eqb (get_or a.specs i 0) (get_or b.specs i 0)))

  pub row-agrees : (i : ℕ) → get_or a.specs i 0 ≡ get_or b.specs i 0 → get_or a.starts i 0 ≡ get_or b.starts i 0
      → get_or a.lens i 0 ≡ get_or b.lens i 0 → row_agrees i a b ≡ true
  row-agrees i e f g = rw (eq-eqb _ _ e, eq-eqb _ _ f, eq-eqb _ _ g)

  -- the ways out
  pub other-count : (a.rows ≡ b.rows → ⊥) → false ≡ fits a b
  unfolding fits
  other-count h = rw (ne_eqb _ _ h)

  module _ (e : a.rows ≡ b.rows) where
    pub other_row : (i : ℕ) → i < b.rows → row_agrees i a b ≡ false → false ≡ fits a b
    unfolding fits
    other_row i h r = rw (eq-eqb _ _ e, agree-not i b.rows h r)

    pub same_rows : (n : ℕ) → n ≡ b.rows → agree_to n a b ≡ true → true ≡ fits a b
    unfolding fits
    same_rows n m r =
        sym (ap (λ (x : Bool). x && agree_to b.rows a b) (eq-eqb _ _ e) ∙ ap (λ (k : ℕ). agree_to k a b) (sym m) ∙ r)

-- ---- counts in 64 places

-- one more of a list that is padded with zeros
pub pad-more : (xs : List ℕ) (i : ℕ) → i < length xs → i < 64 → set (pad (take i xs)) i (get_or xs i 0) ≡ pad (take (i + 1) xs)
unfolding pad
pad-more xs i h l =
    let n : length (take i xs) ≡ i = length-take-le i xs (omega arith) in
    let k : length (take (i + 1) xs) ≡ i + 1 = length-take-le (i + 1) xs (omega arith) in
    let z : 64 - length (take i xs) ≡ suc (64 - length (take (i + 1) xs)) = omega (arith, n, k) in
    rw z (set_at (take i xs) 0 (replicate (64 - length (take (i + 1) xs)) 0) (get_or xs i 0) i n
    ∙ sym (append_assoc (take i xs) (get_or xs i 0 ∷ []) (replicate (64 - length (take (i + 1) xs)) 0))
    ∙ ap (λ (ys : List ℕ). ys ++ replicate (64 - length (take (i + 1) xs)) 0) (sym (ap (λ (j : ℕ). take j xs) (add-one i) ∙ take-suc xs i 0 h)))

-- a padded list has 64 places at least, and of one that has no more, 64
pub pad-long : (xs : List ℕ) → length (pad xs) ≡ max (length xs) 64
unfolding pad
pad-long xs = omega (arith, length-append xs (replicate (64 - length xs) 0), length-replicate (64 - length xs) zero)

pub pad-full : (xs : List ℕ) (i : ℕ) → length xs ≡ 64 → length (pad (take i xs)) ≡ 64
pad-full xs i e = omega (arith, pad-long (take i xs), length-take i xs)

pub pad-none : (xs : List ℕ) → replicate 64 0 ≡ pad (take 0 xs)
unfolding pad
pad-none xs = refl

-- the count of a row
module _ (lent : CountedTable) (i : ℕ) where
  pub known-none : get_or lent.known i 0 ≡ 0 → none ≡ stored_at lent i
  unfolding stored_at
  known-none e = rw (eq-eqb _ _ e)

  pub known-beyond : length lent.known ≡ 64 → 64 ≤ i → none ≡ stored_at lent i
  known-beyond e h = known-none (get_or-eq_default lent.known 0 (omega arith))

  pub known_some : (get_or lent.known i 0 ≡ 0 → ⊥) → some (get_or lent.counts i 0) ≡ stored_at lent i
  unfolding stored_at
  known_some h = rw (ne_eqb _ _ h)

-- ---- types
pub served-yes : (t : ℕ) → 0 < t → t < 6 → served t ≡ true
served-yes zero h l = absurd (omega arith)
served-yes (suc zero) h l = refl
served-yes (suc (suc zero)) h l = refl
served-yes (suc (suc (suc zero))) h l = refl
served-yes (suc (suc (suc (suc zero)))) h l = refl
served-yes (suc (suc (suc (suc (suc zero))))) h l = refl
served-yes (suc (suc (suc (suc (suc (suc n)))))) h l = absurd (omega arith)

pub served-none : (t : ℕ) → t ≡ 0 → served t ≡ false
served-none t e = rw e

pub served-beyond : (t : ℕ) → 6 ≤ t → served t ≡ false
served-beyond t h =
    let other : (k : ℕ) → k < 6 → eqb t k ≡ false = λ k l. ne_eqb t k (λ e. omega arith) in
    rw (other 1 (omega arith), other 2 (omega arith), other 3 (omega arith), other 4 (omega arith), other 5 (omega arith))

module _ (t : ℕ) (s : List ℕ) where
  pub count-deltas : t ≡ 3 → outcome (delta_trace s) ≡ count_of t s
  unfolding count_of
  count-deltas e = rw e

  pub count-booleans : t ≡ 4 → outcome (bool_trace s) ≡ count_of t s
  unfolding count_of
  count-booleans e = rw e

  pub count-names : t ≡ 5 → outcome (trace text_e s) ≡ count_of t s
  unfolding count_of
  count-names e = rw e

pub count-integers : (t : ℕ) (s : List ℕ) → 0 < t → t < 3 → outcome (trace u64_e s) ≡ count_of t s
unfolding count_of
count-integers zero s h l = absurd (omega arith)
count-integers (suc zero) s h l = refl
count-integers (suc (suc zero)) s h l = refl
count-integers (suc (suc (suc n))) s h l = absurd (omega arith)
