-- DEMAND 3, WIDENED BY [6]: "the two runs may also differ in the stored counts of other columns, and those come through unchanged". A call whose table
-- fits its block is the call without a table (`Underneath`), for which demand 3 is proved, with its column's count stored and the others as lent
-- (`Stores`). So two runs on blocks that differ only inside other columns, with tables that differ in counts, answer alike but for those counts
-- (`two_runs`). `integer-lent-3`, `delta-lent-3`, `boolean-lent-3`, `text-lent-3`. Assumes nothing.
use Prim.Native.Nat.{ℕ, ◌<◌}
use mathlib.Core.Path.{◌≡◌, refl, sym, ap, ◌∙◌}
use mathlib.Core.List.{List, map}
use mathlib.Core.Option.{Option, some}
use mathlib.Core.Bool.{Bool, true, false, cond}
use lib.Dec.{eqb}
use lib.IntN.{ℤ, pos}
use lib.ListN.{length}
use borrow.Author.Tests.{eq-eqb, ne_eqb, eqb-true}
use Rattle.leb128.specs.Answer.{Answer}
use Rattle.encoding.specs.Given.{slot_list}
use Rattle.encoding.proofs.Faults.{Numbered}
use Rattle.delta_decoder.proofs.Faults.{delta-numbered}
use Rattle.text.specs.Given.{name_list}
use Rattle.raw_column.specs.Table.{parse}
use Rattle.splice.specs.Kind.{Kind}
use Rattle.splice.specs.Kinds.{integer, delta, boolean, text}
use Rattle.splice.specs.Edit.{Edited, given_optional, given_boolean, given_text, edit_in, edited, answered, slots_left, out_left, Spliced}
use Rattle.splice.specs.Contract.{slot_in, flag_in, itself, starts_in, length_in, OptionalSpliced, BooleanSpliced, TextSpliced, optional_edit, boolean_edit, text_edit}
use Rattle.splice.specs.Lent.{Lent}
use Rattle.splice.specs.declared.End.{End}
use Rattle.splice.proofs.Numbered.{SomeStop, edited-some, optional-some, boolean-some, text-some, integer-numbered, text-numbered}
use Rattle.boolean_decoder.proofs.Faults.{boolean-numbered}
use Rattle.splice.proofs.Demand3.{DemandThree, OptionalCall, optional_says, optional_judged, optional-demand-3, BooleanCall, boolean_judged, boolean-demand-3}
use Rattle.splice.proofs.Demand3.{TextCall, text_says, text_judged, text-demand-3}
use Rattle.counted_table.specs.Counts.{stored_at, stored, lent_tab}
use Rattle.counted_table.specs.Calls.{unspliced, spliced_as, spliced_by, OptionalCounted, BooleanCounted, TextCounted}
use Rattle.counted_table.specs.declared.CountedTable.{CountedTable}
use Rattle.counted_table.specs.declared.edits.CountedSpliced.{CountedSpliced}
use Rattle.counted_table.proofs.Lending.{spliced-by}
use Rattle.counted_table.proofs.Kept.{stored-own, stored_other}

-- what a call adds to the answer a of the one underneath: a refusal gives the table back; else the rows are the new block's, the edited column's count
-- is stored, and the others come through unchanged
pub record Stores (position : ℕ) (t : CountedTable) (a : Spliced) (r : CountedSpliced) : Type 0 where
  pub number : r.number ≡ a.number
  pub refused : (a.number ≡ 0 → ⊥) → r ≡ unspliced t a.number a.place
  pub len : a.number ≡ 0 → r.len ≡ a.len
  pub rows : a.number ≡ 0 → r.table.table ≡ a.table
  pub own : a.number ≡ 0 → position < 64 → stored_at r.table position ≡ some a.readings
  pub others : a.number ≡ 0 → (j : ℕ) → j < a.table.rows → (j ≡ position → ⊥) → stored_at r.table j ≡ stored_at t j

module _ (position : ℕ) (t : CountedTable) (a : Spliced) where
  abbrev accepting : CountedSpliced
  accepting = record { number = 0; place = 0; len = a.len; table = stored t a.table position a.readings }

  abbrev answer_by : Bool → CountedSpliced
  answer_by b = cond b accepting (unspliced t a.number a.place)

  accepts : a.number ≡ 0 → spliced_by t position a ≡ accepting
  accepts z = ap answer_by (eq-eqb a.number 0 z)

  refuses : (a.number ≡ 0 → ⊥) → spliced_by t position a ≡ unspliced t a.number a.place
  refuses h = ap answer_by (ne_eqb a.number 0 h)

  same_number : (spliced_by t position a).number ≡ a.number
  same_number = go (eqb a.number 0) refl
    where
      go : (b : Bool) → eqb a.number 0 ≡ b → (answer_by b).number ≡ a.number
      go true e = sym (eqb-true a.number 0 e)
      go false e = refl

  pub stores : {r : CountedSpliced} → r ≡ spliced_by t position a → Stores position t a r
  unfolding stored
  stores {r} e =
      record {
        number = ap (λ (c : CountedSpliced). c.number) e ∙ same_number;
        refused = λ h. e ∙ refuses h;
        len = λ z. ap (λ (c : CountedSpliced). c.len) (e ∙ accepts z);
        rows = λ z. ap (λ (c : CountedSpliced). c.table.table) (e ∙ accepts z);
        own = λ z h. ap (λ (c : CountedSpliced). stored_at c.table position) (e ∙ accepts z) ∙ stored-own t a.table position a.readings h;
        others = λ z j h d.
            ap (λ (c : CountedSpliced). stored_at c.table j) (e ∙ accepts z) ∙ stored_other t a.table position a.readings j h d;
      }

-- the call underneath: its answer, what it promises, and what is stored behind it
pub record Underneath (Plain : Spliced → Type 0) (position : ℕ) (t : CountedTable) (r : CountedSpliced) : Type 0 where
  pub answer : Spliced
  pub promised : Plain answer
  pub is : r ≡ spliced_by t position answer

-- demand 3 of it, and what is stored
pub record LentThree (Plain Three : Spliced → Type 0) (position : ℕ) (t : CountedTable) (r : CountedSpliced) : Type 0 where
  pub underneath : Underneath Plain position t r
  pub three : Three underneath.answer
  pub storing : Stores position t underneath.answer r

-- two runs whose answers underneath are the same are alike but for the others' counts
pub two_runs : (position : ℕ) (t t₂ : CountedTable) (a a₂ : Spliced) {r r₂ : CountedSpliced} → a ≡ a₂
    → r ≡ spliced_by t position a → r₂ ≡ spliced_by t₂ position a₂ → Stores position t a r × Stores position t₂ a r₂
two_runs position t t₂ a a₂ e f g = (stores position t a f, stores position t₂ a (g ∙ ap (spliced_by t₂ position) (sym e)))

module _ {A : Type 0} (K : Kind A) (s : List ℕ) (t : CountedTable) (fit : lent_tab t s ≡ parse s) where
  plain-is : (position start : ℕ) (end : End) (given : Answer) (new : List A) (slots room : ℕ)
      → edit_in K s position start end given new slots room (lent_tab t s) ≡ edited K s position start end given new slots room
  unfolding edited
  plain-is position start end given new slots room = ap (edit_in K s position start end given new slots room) fit

  answers : (position : ℕ) {x y : Edited A} {r : CountedSpliced} → x ≡ y → SomeStop y → r ≡ spliced_as K t position x → r ≡ spliced_by t position (answered K y)
  answers position {x} {y} k ok e = e ∙ ap (spliced_as K t position) k ∙ sym (spliced-by K t position y ok)

module _ {A : Type 0} (K : Kind (Option A)) (numbered : (c : List ℕ) → Numbered (K.reads c).ending) (nought : A) (s : List ℕ) (t : CountedTable)
    (fit : lent_tab t s ≡ parse s) (position start : ℕ) (end : End) (new : List A) (flags : List ℕ) (v v' : List A) (p p' out out' : List ℕ)
    (r : CountedSpliced) (c : OptionalCounted K nought s t position start end new flags v v' p p' out out' r) where
  pub optional-underneath : Underneath (OptionalSpliced K nought s position start end new flags v v' p p' out out') position t r
  optional-underneath =
      let given = given_optional (length v) (length p) (length new) flags in
      let k = plain-is K s t fit position start end given (slot_list new flags) (length v) (length out) in
      let ok = edited-some K numbered start end (slot_list new flags) (length v) (length out) s position given
      (optional-some (length v) (length p) (length new) flags) in
      record {
        answer = answered K (optional_edit K s position start end new flags (length v) (length p) (length out));
        promised =
            record {
              answer = refl;
              values = c.values ∙ ap (λ (x : Edited (Option A)). slots_left nought (map (slot_in nought)) x v) k;
              presence = c.presence ∙ ap (λ (x : Edited (Option A)). slots_left 0 (map flag_in) x p) k;
              output = c.output ∙ ap (λ (x : Edited (Option A)). out_left x out) k;
            };
        is = answers K s t fit position k ok c.answer;
      }

  pub optional-lent-3 : Lent s → Lent out → LentThree (OptionalSpliced K nought s position start end new flags v v' p p' out out')
      (DemandThree K position start end optional_says optional_judged (OptionalCall K nought position start end) (new, flags)
      s (v, p) (v', p') out out') position t r
  optional-lent-3 l m =
      let u = optional-underneath in
      record {
        underneath = u;
        three = optional-demand-3 K numbered nought s position start end new flags v v' p p' out out' u.answer l m u.promised;
        storing = stores position t u.answer u.is;
      }

module _ (s : List ℕ) (t : CountedTable) (fit : lent_tab t s ≡ parse s) (position start : ℕ) (end : End) (new v v' out out' : List ℕ) (r : CountedSpliced)
    (c : BooleanCounted boolean s t position start end new v v' out out' r) where
  pub boolean-underneath : Underneath (BooleanSpliced boolean s position start end new v v' out out') position t r
  boolean-underneath =
      let k = plain-is boolean s t fit position start end (given_boolean new) new (length v) (length out) in
      let ok = edited-some boolean boolean-numbered start end new (length v) (length out) s position (given_boolean new) (boolean-some new) in
      record {
        answer = answered boolean (boolean_edit boolean s position start end new (length v) (length out));
        promised =
            record {
              answer = refl;
              values = c.values ∙ ap (λ (x : Edited ℕ). slots_left 0 itself x v) k;
              output = c.output ∙ ap (λ (x : Edited ℕ). out_left x out) k;
            };
        is = answers boolean s t fit position k ok c.answer;
      }

  pub boolean-lent-3 : Lent s → Lent out → LentThree (BooleanSpliced boolean s position start end new v v' out out')
      (DemandThree boolean position start end itself boolean_judged (BooleanCall boolean position start end) new s v v' out out') position t r
  boolean-lent-3 l m =
      let u = boolean-underneath in
      record {
        underneath = u;
        three = boolean-demand-3 s position start end new v v' out out' u.answer l m u.promised;
        storing = stores position t u.answer u.is;
      }

module _ (s : List ℕ) (t : CountedTable) (fit : lent_tab t s ≡ parse s) (position start : ℕ) (end : End)
    (bytes newStarts newLens newFlags a a' l l' p p' out out' : List ℕ) (r : CountedSpliced)
    (c : TextCounted text s t position start end bytes newStarts newLens newFlags a a' l l' p p' out out' r) where
  abbrev Name : Type 0
  Name = Option (List ℕ)

  pub text-underneath : Underneath (TextSpliced text s position start end bytes newStarts newLens newFlags a a' l l' p p' out out') position t r
  text-underneath =
      let given = given_text (length a) (length l) (length p) bytes newStarts newLens newFlags in
      let new = name_list bytes newStarts newLens newFlags in
      let k = plain-is text s t fit position start end given new (length a) (length out) in
      let ok = edited-some text text-numbered start end new (length a) (length out) s position given
      (text-some (length a) (length l) (length p) bytes newStarts newLens newFlags) in
      record {
        answer = answered text (text_edit text s position start end bytes newStarts newLens newFlags (length a) (length l) (length p) (length out));
        promised =
            record {
              answer = refl;
              starts = c.starts ∙ ap (λ (x : Edited Name). slots_left 0 starts_in x a) k;
              lens = c.lens ∙ ap (λ (x : Edited Name). slots_left 0 (map length_in) x l) k;
              presence = c.presence ∙ ap (λ (x : Edited Name). slots_left 0 (map flag_in) x p) k;
              output = c.output ∙ ap (λ (x : Edited Name). out_left x out) k;
            };
        is = answers text s t fit position k ok c.answer;
      }

  pub text-lent-3 : Lent s → Lent out → LentThree (TextSpliced text s position start end bytes newStarts newLens newFlags a a' l l' p p' out out')
      (DemandThree text position start end text_says text_judged (TextCall position start end) (bytes, newStarts, newLens, newFlags)
      s (a, l, p) (a', l', p') out out') position t r
  text-lent-3 g h =
      let u = text-underneath in
      record {
        underneath = u;
        three = text-demand-3 s position start end bytes newStarts newLens newFlags a a' l l' p p' out out' u.answer g h u.promised;
        storing = stores position t u.answer u.is;
      }

pub integer-lent-3 : (s : List ℕ) (t : CountedTable) → lent_tab t s ≡ parse s → (position start : ℕ) (end : End) (new flags v v' p p' out out' : List ℕ)
    (r : CountedSpliced) → OptionalCounted integer 0 s t position start end new flags v v' p p' out out' r → Lent s → Lent out
    → LentThree (OptionalSpliced integer 0 s position start end new flags v v' p p' out out')
    (DemandThree integer position start end optional_says optional_judged (OptionalCall integer 0 position start end) (new, flags)
    s (v, p) (v', p') out out') position t r
integer-lent-3 = optional-lent-3 integer integer-numbered 0

pub delta-lent-3 : (s : List ℕ) (t : CountedTable) → lent_tab t s ≡ parse s → (position start : ℕ) (end : End) (new : List ℤ) (flags : List ℕ) (v v' : List ℤ)
    (p p' out out' : List ℕ) (r : CountedSpliced) → OptionalCounted delta (pos 0) s t position start end new flags v v' p p' out out' r → Lent s → Lent out
    → LentThree (OptionalSpliced delta (pos 0) s position start end new flags v v' p p' out out')
    (DemandThree delta position start end optional_says optional_judged (OptionalCall delta (pos 0) position start end) (new, flags)
    s (v, p) (v', p') out out') position t r
delta-lent-3 = optional-lent-3 delta delta-numbered (pos 0)
