-- How counting goes: one law for each way out. Assumes nothing.
use Prim.Native.Nat.{ℕ, ◌+◌, ◌-◌, ◌≤◌, ◌<◌}
use mathlib.Core.Path.{◌≡◌, sym, ap, ◌∙◌}
use mathlib.Core.List.{List}
use mathlib.Core.Option.{Option, none, some}
use mathlib.Core.Bool.{Bool, true, cond}
use native.Mathlib.Decide.{dec_lt}
use native.Mathlib.Omega.{arith}
use lib.ListN.{take, drop}
use borrow.Author.Tests.{eq-eqb, ne_eqb}
use Rattle.leb128.specs.Answer.{Answer, done, refused}
use Rattle.column_specification.specs.Specification.{type_of}
use Rattle.raw_column.specs.Table.{Tab, faulty}
use Rattle.raw_column.specs.Rows.{opened}
use Rattle.raw_column.specs.declared.TableAnswer.{TableAnswer}
use Rattle.column_part.specs.Part.{part_in, part_at, bytes_of, Part}
use Rattle.counted_table.specs.Counts.{stored_at, lent_tab, served, count_of, or_counted, row_count}
use Rattle.counted_table.specs.Counts.{count_part, count_in, is_counted, not_counted, counted_as, counted}
use Rattle.counted_table.specs.declared.CountedTable.{CountedTable}
use Rattle.counted_table.proofs.Storing.{served-yes, served-none, served-beyond}
use Rattle.counted_table.proofs.Lending.{lent-faulty, lent-whole}

-- ---- a row's count: 17, the stored one, or by the column
pub served-range : (t : ℕ) → (t ≡ 0 → ⊥) → t ≤ 5 → (0 < t) × (t < 6)
served-range t h l = elim (dec_lt 0 t) [ yes m ↦ (m, omega arith) | no m ↦ absurd (h (omega arith)) ]

module _ (t : ℕ) (column : List ℕ) where
  pub count_none : (o : Option ℕ) → t ≡ 0 → refused 17 0 ≡ row_count t o column
  count_none o e = rw (served-none t e)

  pub count-beyond : (o : Option ℕ) → 6 ≤ t → refused 17 0 ≡ row_count t o column
  count-beyond o h = sym (ap (λ (b : Bool). cond b (or_counted o (count_of t column)) (refused 17 0)) (served-beyond t h))

  module _ (h : t ≡ 0 → ⊥) (l : t ≤ 5) (o : Option ℕ) where
    is-served : served t ≡ true
    is-served = let r = served-range t h l in served-yes t r.0 r.1

    pub count-stored : {n : ℕ} → o ≡ some n → done n ≡ row_count t o column
    count-stored e = rw (is-served, e)

    pub count-read : o ≡ none → count_of t column ≡ row_count t o column
    count-read e = rw (is-served, e)

module _ (lent : CountedTable) (s : List ℕ) (position : ℕ) {o : TableAnswer} (e : o ≡ opened (lent_tab lent s)) where
  -- table faults and 25
  pub count-unlent : (o.number ≡ 0 → ⊥) → not_counted lent o.number o.place ≡ counted lent s position
  unfolding counted count_in
  count-unlent h =
      sym (ap (λ (t : Tab). counted_as lent position t (count_part lent position s (part_in position t))) (lent-faulty lent s e h)
      ∙ ap (counted_as lent position (faulty o.number o.place))
      (ap (λ (b : Bool). cond b (row_count (type_of 0) (stored_at lent position) (take 0 (drop 0 s))) (refused o.number o.place)) (ne_eqb o.number 0 h)))

  module _ (z : o.number ≡ 0) {p : Part} (f : p ≡ part_at s position) where
    asked : count_in lent position s (lent_tab lent s) ≡ count_part lent position s p
    unfolding count_in part_at
    asked = ap (λ (t : Tab). count_part lent position s (part_in position t)) (lent-whole lent s e z) ∙ ap (count_part lent position s) (sym f)

    is-counted : (a : Answer) → count_part lent position s p ≡ a → counted_as lent position (lent_tab lent s) a ≡ counted lent s position
    unfolding counted
    is-counted a h = ap (counted_as lent position (lent_tab lent s)) (sym h ∙ sym asked)

    -- 16
    pub count-unplaced : (p.number ≡ 0 → ⊥) → not_counted lent p.number p.place ≡ counted lent s position
    count-unplaced h =
        is-counted (refused p.number p.place)
        (ap (λ (b : Bool). cond b (row_count (type_of p.spec) (stored_at lent position) (bytes_of s p)) (refused p.number p.place))
        (ne_eqb p.number 0 h))

    module _ (y : p.number ≡ 0) {t till : ℕ} {w : Option ℕ} (ty : t ≡ type_of p.spec) (wh : w ≡ stored_at lent position) (ti : till ≡ p.start + p.len) where
      row_is : count_part lent position s p ≡ row_count t w (take (till - p.start) (drop p.start s))
      row_is =
          let k : till - p.start ≡ p.len = omega (arith, ti) in
          ap (λ (b : Bool). cond b (row_count (type_of p.spec) (stored_at lent position) (bytes_of s p)) (refused p.number p.place))
          (eq-eqb p.number 0 y)
          ∙ ap (λ (x : ℕ). row_count x (stored_at lent position) (bytes_of s p)) (sym ty)
          ∙ ap (λ (x : Option ℕ). row_count t x (bytes_of s p)) (sym wh)
          ∙ ap (λ (n : ℕ). row_count t w (take n (drop p.start s))) (sym k)

      -- the row's count, or its fault
      pub count-given : {n : ℕ} → done n ≡ row_count t w (take (till - p.start) (drop p.start s))
          → is_counted lent o.table position n ≡ counted lent s position
      count-given {n} h =
          ap (λ (x : TableAnswer). is_counted lent x.table position n) e ∙ is-counted (done n) (row_is ∙ sym h)

      pub count-refused : {number place : ℕ} → refused number place ≡ row_count t w (take (till - p.start) (drop p.start s))
          → not_counted lent number place ≡ counted lent s position
      count-refused {number} {place} h = is-counted (refused number place) (row_is ∙ sym h)
