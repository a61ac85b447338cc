-- The edits that are lent a table, from those that are not: one law for each way out. Assumes nothing.
use Prim.Native.Nat.{ℕ, ◌≤◌}
use mathlib.Core.Path.{◌≡◌, sym, ap, ◌∙◌}
use mathlib.Core.List.{List, map}
use mathlib.Core.Option.{Option}
use lib.ListN.{length}
use Rattle.encoding.specs.Given.{slot_list}
use Rattle.encoding.proofs.Faults.{Numbered}
use Rattle.text.specs.Given.{name_list}
use Rattle.raw_column.specs.Rows.{opened}
use Rattle.raw_column.specs.declared.TableAnswer.{TableAnswer}
use Rattle.splice.specs.Kind.{Kind}
use Rattle.splice.specs.Edit.{Edited, given_optional, given_boolean, given_text, answered, slots_left, out_left, Spliced}
use Rattle.splice.specs.Contract.{slot_in, flag_in, itself, starts_in, length_in, OptionalSpliced, BooleanSpliced, TextSpliced, optional_edit, boolean_edit, text_edit}
use Rattle.splice.specs.declared.End.{End}
use Rattle.splice.proofs.Numbered.{SomeStop, edited-some, optional-some, boolean-some, text-some}
use Rattle.counted_table.specs.Counts.{lent_tab}
use Rattle.counted_table.specs.Calls.{unspliced, spliced_as, spliced_by, OptionalCounted, BooleanCounted, TextCounted}
use Rattle.counted_table.specs.declared.CountedTable.{CountedTable}
use Rattle.counted_table.specs.declared.edits.CountedSpliced.{CountedSpliced}
use Rattle.counted_table.proofs.Lending.{edit-refused, edit-goes, spliced-by, few-answered}

-- the answer, of an edit over any kind
module _ {A : Type 0} (K : Kind A) (lent : CountedTable) (position : ℕ) {x y : Edited A} (e : x ≡ y) where
  abbrev answer-of : {a : CountedSpliced} {r : Spliced} → SomeStop x → r ≡ answered K x → a ≡ spliced_by lent position r → a ≡ spliced_as K lent position y
  answer-of {a} {r} some q h =
      h ∙ ap (spliced_by lent position) q ∙ spliced-by K lent position x some ∙ ap (spliced_as K lent position) e

-- an edit's table has few rows
pub optional-few : {A : Type 0} {K : Kind (Option A)} {nought : A} {s : List ℕ} {position start : ℕ} {end : End} {new : List A} {flags : List ℕ} {v v' : List A}
    {p p' out out' : List ℕ} {r : Spliced} → OptionalSpliced K nought s position start end new flags v v' p p' out out' r → r.table.rows ≤ 64
optional-few {K = K} {s = s} {position = position} {start = start} {end = end} {new = new} {flags = flags} {v = v} {p = p} {out = out} c =
    few-answered K (optional_edit K s position start end new flags (length v) (length p) (length out)) c.answer

pub boolean-few : {K : Kind ℕ} {s : List ℕ} {position start : ℕ} {end : End} {new v v' out out' : List ℕ} {r : Spliced}
    → BooleanSpliced K s position start end new v v' out out' r → r.table.rows ≤ 64
boolean-few {K = K} {s = s} {position = position} {start = start} {end = end} {new = new} {v = v} {out = out} c =
    few-answered K (boolean_edit K s position start end new (length v) (length out)) c.answer

pub text-few : {K : Kind (Option (List ℕ))} {s : List ℕ} {position start : ℕ} {end : End} {bytes newStarts newLens newFlags a a' l l' p p' out out' : List ℕ}
    {r : Spliced} → TextSpliced K s position start end bytes newStarts newLens newFlags a a' l l' p p' out out' r → r.table.rows ≤ 64
text-few {K = K} {s = s} {position = position} {start = start} {end = end} {bytes = bytes} {newStarts = newStarts} {newLens = newLens}
    {newFlags = newFlags} {a = a} {l = l} {p = p} {out = out} c =
    few-answered K (text_edit K s position start end bytes newStarts newLens newFlags (length a) (length l) (length p) (length out)) c.answer

module _ {A : Type 0} (K : Kind (Option A)) (numbered : (c : List ℕ) → Numbered (K.reads c).ending) (nought : A) (s : List ℕ) (lent : CountedTable)
    (position start : ℕ) (end : End) (new : List A) (flags : List ℕ) (v : List A) (p out : List ℕ) {o : TableAnswer} (e : o ≡ opened (lent_tab lent s)) where
  pub optional-refused : (o.number ≡ 0 → ⊥) → {a : CountedSpliced} → a ≡ unspliced lent o.number o.place
      → OptionalCounted K nought s lent position start end new flags v v p p out out a
  optional-refused h {a} q =
      let given = given_optional (length v) (length p) (length new) flags in
      let k = sym (edit-refused K lent s position start end given (slot_list new flags) (length v) (length out) e h) in
      record {
        answer = q ∙ ap (spliced_as K lent position) k;
        values = ap (λ (x : Edited (Option A)). slots_left nought (map (slot_in nought)) x v) k;
        presence = ap (λ (x : Edited (Option A)). slots_left 0 (map flag_in) x p) k;
        output = ap (λ (x : Edited (Option A)). out_left x out) k;
      }

  pub optional-goes : o.number ≡ 0 → {v' : List A} {p' out' : List ℕ} {r : Spliced} {a : CountedSpliced}
      → OptionalSpliced K nought s position start end new flags v v' p p' out out' r → a ≡ spliced_by lent position r
      → OptionalCounted K nought s lent position start end new flags v v' p p' out out' a
  optional-goes z {v'} {p'} {out'} {r} {a} c q =
      let given = given_optional (length v) (length p) (length new) flags in
      let k = edit-goes K lent s position start end given (slot_list new flags) (length v) (length out) e z in
      let some = edited-some K numbered start end (slot_list new flags) (length v) (length out) s position given
      (optional-some (length v) (length p) (length new) flags) in
      record {
        answer = answer-of K lent position k some c.answer q;
        values = c.values ∙ ap (λ (x : Edited (Option A)). slots_left nought (map (slot_in nought)) x v) k;
        presence = c.presence ∙ ap (λ (x : Edited (Option A)). slots_left 0 (map flag_in) x p) k;
        output = c.output ∙ ap (λ (x : Edited (Option A)). out_left x out) k;
      }

module _ (K : Kind ℕ) (numbered : (c : List ℕ) → Numbered (K.reads c).ending) (s : List ℕ) (lent : CountedTable) (position start : ℕ) (end : End)
    (new v out : List ℕ) {o : TableAnswer} (e : o ≡ opened (lent_tab lent s)) where
  pub boolean-refused : (o.number ≡ 0 → ⊥) → {a : CountedSpliced} → a ≡ unspliced lent o.number o.place
      → BooleanCounted K s lent position start end new v v out out a
  boolean-refused h {a} q =
      let k = sym (edit-refused K lent s position start end (given_boolean new) new (length v) (length out) e h) in
      record {
        answer = q ∙ ap (spliced_as K lent position) k;
        values = ap (λ (x : Edited ℕ). slots_left 0 itself x v) k;
        output = ap (λ (x : Edited ℕ). out_left x out) k;
      }

  pub boolean-goes : o.number ≡ 0 → {v' out' : List ℕ} {r : Spliced} {a : CountedSpliced} → BooleanSpliced K s position start end new v v' out out' r
      → a ≡ spliced_by lent position r → BooleanCounted K s lent position start end new v v' out out' a
  boolean-goes z {v'} {out'} {r} {a} c q =
      let k = edit-goes K lent s position start end (given_boolean new) new (length v) (length out) e z in
      let some = edited-some K numbered start end new (length v) (length out) s position (given_boolean new) (boolean-some new) in
      record {
        answer = answer-of K lent position k some c.answer q;
        values = c.values ∙ ap (λ (x : Edited ℕ). slots_left 0 itself x v) k;
        output = c.output ∙ ap (λ (x : Edited ℕ). out_left x out) k;
      }

module _ (K : Kind (Option (List ℕ))) (numbered : (c : List ℕ) → Numbered (K.reads c).ending) (s : List ℕ) (lent : CountedTable) (position start : ℕ)
    (end : End) (bytes newStarts newLens newFlags a l p out : List ℕ) {o : TableAnswer} (e : o ≡ opened (lent_tab lent s)) where
  abbrev Name : Type 0
  Name = Option (List ℕ)

  pub text-refused : (o.number ≡ 0 → ⊥) → {r : CountedSpliced} → r ≡ unspliced lent o.number o.place
      → TextCounted K s lent position start end bytes newStarts newLens newFlags a a l l p p out out r
  text-refused h {r} q =
      let given = given_text (length a) (length l) (length p) bytes newStarts newLens newFlags in
      let k = sym (edit-refused K lent s position start end given (name_list bytes newStarts newLens newFlags) (length a) (length out) e h) in
      record {
        answer = q ∙ ap (spliced_as K lent position) k;
        starts = ap (λ (x : Edited Name). slots_left 0 starts_in x a) k;
        lens = ap (λ (x : Edited Name). slots_left 0 (map length_in) x l) k;
        presence = ap (λ (x : Edited Name). slots_left 0 (map flag_in) x p) k;
        output = ap (λ (x : Edited Name). out_left x out) k;
      }

  pub text-goes : o.number ≡ 0 → {a' l' p' out' : List ℕ} {r : Spliced} {c : CountedSpliced}
      → TextSpliced K s position start end bytes newStarts newLens newFlags a a' l l' p p' out out' r → c ≡ spliced_by lent position r
      → TextCounted K s lent position start end bytes newStarts newLens newFlags a a' l l' p p' out out' c
  text-goes z {a'} {l'} {p'} {out'} {r} {c} t q =
      let given = given_text (length a) (length l) (length p) bytes newStarts newLens newFlags in
      let new = name_list bytes newStarts newLens newFlags in
      let k = edit-goes K lent s position start end given new (length a) (length out) e z in
      let some = edited-some K numbered start end new (length a) (length out) s position given
      (text-some (length a) (length l) (length p) bytes newStarts newLens newFlags) in
      record {
        answer = answer-of K lent position k some t.answer q;
        starts = t.starts ∙ ap (λ (x : Edited Name). slots_left 0 starts_in x a) k;
        lens = t.lens ∙ ap (λ (x : Edited Name). slots_left 0 (map length_in) x l) k;
        presence = t.presence ∙ ap (λ (x : Edited Name). slots_left 0 (map flag_in) x p) k;
        output = t.output ∙ ap (λ (x : Edited Name). out_left x out) k;
      }
