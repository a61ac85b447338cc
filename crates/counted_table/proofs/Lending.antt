-- A block's table read beside the one that is lent: table faults, 25, and what an edit or a count that gets past them is. Assumes nothing.
use Prim.Native.Nat.{ℕ, ◌≤◌}
use mathlib.Core.Path.{◌≡◌, refl, sym, ap, ◌∙◌}
use mathlib.Core.List.{List}
use mathlib.Core.Bool.{Bool, true, false, cond}
use native.Mathlib.Omega.{arith}
use lib.ListN.{length}
use borrow.Author.Tests.{eq-eqb, ne_eqb}
use Rattle.leb128.specs.Answer.{Answer, refused}
use Rattle.raw_column.specs.Table.{Tab, tab, faulty, parse}
use Rattle.raw_column.specs.Rows.{table_of, opened}
use Rattle.raw_column.specs.declared.TableAnswer.{TableAnswer}
use Rattle.raw_column.proofs.Opening.{ParseOk, parse-ok, open-bad, open-good, specs_of, lens_of}
use Rattle.splice.specs.Kind.{Kind}
use Rattle.splice.specs.Edit.{Edited, stop, late, accepted, edit_in, edited, answered, Spliced}
use Rattle.splice.specs.declared.End.{End}
use Rattle.splice.proofs.Numbered.{SomeStop}
use Rattle.counted_table.specs.Counts.{stored, fits, lent_in, lent_tab}
use Rattle.counted_table.specs.Calls.{unspliced, spliced_as, spliced_by}
use Rattle.counted_table.specs.declared.CountedTable.{CountedTable}

-- ---- what was read
module _ (lent : CountedTable) (s : List ℕ) {o : TableAnswer} (e : o ≡ opened (parse s)) where
  -- a table that is refused by itself
  pub lent-bad : (o.number ≡ 0 → ⊥) → o ≡ opened (lent_tab lent s)
  unfolding lent_tab
  lent-bad h = let p = open-bad s e h in e ∙ ap opened p ∙ sym (ap (λ (t : Tab). opened (lent_in lent t)) p)

  module _ (z : o.number ≡ 0) where
    rows_are : o.table ≡ table_of (specs_of o) (lens_of o)
    rows_are = ap (λ (x : TableAnswer). x.table) e ∙ ap (λ (t : Tab). (opened t).table) (open-good s e z).is

    -- 25
    pub lent_other : false ≡ fits lent.table o.table → opened (faulty 25 0) ≡ opened (lent_tab lent s)
    unfolding lent_tab
    lent_other h =
        sym (ap (λ (t : Tab). opened (lent_in lent t)) (open-good s e z).is
        ∙ ap (λ (b : Bool). opened (cond b (tab (specs_of o) (lens_of o) o.start) (faulty 25 0)))
        (ap (fits lent.table) (sym rows_are) ∙ sym h))

    pub lent_same : true ≡ fits lent.table o.table → o ≡ opened (lent_tab lent s)
    unfolding lent_tab
    lent_same h =
        e ∙ ap opened (open-good s e z).is
        ∙ sym (ap (λ (t : Tab). opened (lent_in lent t)) (open-good s e z).is
        ∙ ap (λ (b : Bool). opened (cond b (tab (specs_of o) (lens_of o) o.start) (faulty 25 0)))
        (ap (fits lent.table) (sym rows_are) ∙ sym h))

    pub few-rows : o.table.rows ≤ 64
    few-rows = (open-good s e z).small

-- ---- what that says to callers
module _ (lent : CountedTable) (s : List ℕ) {o : TableAnswer} (e : o ≡ opened (lent_tab lent s)) where
  pub lent-faulty : (o.number ≡ 0 → ⊥) → lent_tab lent s ≡ faulty o.number o.place
  lent-faulty h = go (lent_tab lent s) e
    where
      go : (t : Tab) → o ≡ opened t → t ≡ faulty o.number o.place
      go (tab specs lens next) f = absurd (h (ap (λ (x : TableAnswer). x.number) f))
      go (faulty number place) f = sym (ap (λ (x : TableAnswer). faulty x.number x.place) f)

  pub lent-whole : o.number ≡ 0 → lent_tab lent s ≡ parse s
  unfolding lent_tab
  lent-whole z = go (parse s) (parse-ok s) e
    where
      go : (t : Tab) → ParseOk (length s) t → o ≡ opened (lent_in lent t) → lent_in lent t ≡ t
      go (faulty number place) k f = refl
      go (tab specs lens next) k f = by (fits lent.table (table_of specs lens)) f
        where
          by : (b : Bool) → o ≡ opened (cond b (tab specs lens next) (faulty 25 0)) → cond b (tab specs lens next) (faulty 25 0) ≡ tab specs lens next
          by true g = refl
          by false g = let y : ◌≡◌ {A = ℕ} 25 0 = sym (ap (λ (x : TableAnswer). x.number) g) ∙ z in absurd (omega (arith, y))

  pub lent-table : o.number ≡ 0 → o ≡ opened (parse s)
  lent-table z = e ∙ ap opened (lent-whole z)

  pub lent-few : o.number ≡ 0 → o.table.rows ≤ 64
  lent-few z = (open-good s (lent-table z) z).small

-- ---- edits: refused before their own checks, or as they are without a lent table
module _ {A : Type 0} (K : Kind A) (lent : CountedTable) (s : List ℕ) (position start : ℕ) (end : End) (given : Answer) (new : List A) (slots room : ℕ)
    {o : TableAnswer} (e : o ≡ opened (lent_tab lent s)) where
  abbrev lent_edit : Edited A
  lent_edit = edit_in K s position start end given new slots room (lent_tab lent s)

  pub edit-refused : (o.number ≡ 0 → ⊥) → lent_edit ≡ stop o.number o.place
  edit-refused h = ap (edit_in K s position start end given new slots room) (lent-faulty lent s e h)

  pub edit-goes : o.number ≡ 0 → edited K s position start end given new slots room ≡ lent_edit
  unfolding edited
  edit-goes z = sym (ap (edit_in K s position start end given new slots room) (lent-whole lent s e z))

-- what is answered: a refusal is never 0
pub spliced-by : {A : Type 0} (K : Kind A) (lent : CountedTable) (position : ℕ) (x : Edited A) → SomeStop x
    → spliced_by lent position (answered K x) ≡ spliced_as K lent position x
spliced-by K lent position (stop number place) h = rw (ne_eqb number 0 (λ e. omega (arith, h, e)))
spliced-by K lent position (late number place old xs) h = rw (ne_eqb number 0 (λ e. omega (arith, h, e)))
spliced-by K lent position (accepted old xs block) h = refl

module _ (lent : CountedTable) (position : ℕ) (r : Spliced) where
  pub by-refused : (r.number ≡ 0 → ⊥) → unspliced lent r.number r.place ≡ spliced_by lent position r
  by-refused h = rw (ne_eqb r.number 0 h)

  pub by-done : r.number ≡ 0 → {t : CountedTable} → t ≡ stored lent r.table position r.readings
      → record { number = 0; place = 0; len = r.len; table = t } ≡ spliced_by lent position r
  by-done z e = rw (eq-eqb r.number 0 z, e)

-- and its table has few rows
answered-few : {A : Type 0} (K : Kind A) (x : Edited A) → (answered K x).table.rows ≤ 64
answered-few K (stop number place) = omega arith
answered-few K (late number place old xs) = omega arith
answered-few K (accepted old xs block) = go (parse block) (parse-ok block)
  where
    go : (t : Tab) → ParseOk (length block) t → (opened t).table.rows ≤ 64
    go (tab specs lens next) k = k.0
    go (faulty number place) k = omega arith

pub few-answered : {A : Type 0} (K : Kind A) (x : Edited A) {r : Spliced} → r ≡ answered K x → r.table.rows ≤ 64
few-answered K x e = rw e (answered-few K x)
