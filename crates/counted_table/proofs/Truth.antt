-- WHAT IS STORED IS TRUE (02, [6]): `reached-true`, by induction over any sequence of calls, refused ones too.
-- Assumes nothing.
use Prim.Native.Nat.{ℕ}
use mathlib.Core.Path.{◌≡◌, refl, sym, subst}
use mathlib.Core.List.{List}
use mathlib.Core.Option.{Option, none}
use native.Mathlib.Omega.{arith}
use lib.IntN.{pos}
use lib.ListN.{length}
use Rattle.leb128.specs.Answer.{done, refused}
use Rattle.encoding.specs.Given.{slot_list, bad_flag}
use Rattle.encoding.proofs.Back.{ListFits}
use Rattle.rle_decoder.specs.Word.{u64_e}
use Rattle.delta_decoder.specs.Difference.{i64_e}
use Rattle.delta_decoder.proofs.Faults.{delta-numbered}
use Rattle.boolean_decoder.proofs.Faults.{boolean-numbered}
use Rattle.text.specs.Text.{text_e}
use Rattle.text.specs.Given.{name_list}
use Rattle.text.proofs.Givens.{texts-fit}
use Rattle.splice.specs.Kinds.{integer, delta, boolean, text}
use Rattle.splice.specs.Edit.{flags_in, given_optional, given_boolean, given_text}
use Rattle.splice.specs.Lent.{Lent}
use Rattle.splice.proofs.Counting.{integer-counts, delta-counts, boolean-counts, text-counts}
use Rattle.splice.proofs.Numbered.{optional-some, boolean-some, text-some, integer-numbered, text-numbered}
use Rattle.text_encoder.proofs.EditedNames.{names-good}
use Rattle.counted_table.specs.Calls.{optional_lent, boolean_lent, text_lent}
use Rattle.counted_table.specs.Reached.{TrueOf, Edit, integers, deltas, booleans, names, Call, block_of, Reached, opens, counts, edits, refuses}
use Rattle.counted_table.specs.declared.CountedTable.{CountedTable}
use Rattle.counted_table.proofs.Written.{words-fit, given-fit, listed-spliced, clean-spliced, integer-back, delta-back, text-back, boolean-counted}
use Rattle.counted_table.proofs.Written.{integer-read, delta-read, text-read, boolean-read}
use Rattle.counted_table.proofs.Kept.{Counts, opened-true, count-true, edit-true, lent_back}

-- ---- the four kinds

integers-count : Counts integer (ListFits u64_e)
integers-count =
    record {
      numbered = integer-numbered;
      counts = integer-counts;
      back = λ xs g w m. integer-back xs g m;
      read = integer-read;
      parts = listed-spliced u64_e;
    }

deltas-count : Counts delta (ListFits i64_e)
deltas-count =
    record {
      numbered = delta-numbered;
      counts = delta-counts;
      back = delta-back;
      read = λ c b. delta-read c;
      parts = listed-spliced i64_e;
    }

booleans-count : Counts boolean (λ xs. bad_flag 0 xs ≡ none)
booleans-count =
    record {
      numbered = boolean-numbered;
      counts = boolean-counts;
      back = λ xs g w m. boolean-counted xs g m;
      read = λ c b. boolean-read c;
      parts = clean-spliced;
    }

names-count : Counts text (ListFits text_e)
names-count =
    record {
      numbered = text-numbered;
      counts = text-counts;
      back = λ xs g w m. text-back xs g m;
      read = text-read;
      parts = listed-spliced text_e;
    }

-- booleans that are not refused are bytes 0 and 1
clean-given : (new : List ℕ) (g : ℕ) → given_boolean new ≡ done g → bad_flag 0 new ≡ none
unfolding given_boolean
clean-given new g = go (bad_flag 0 new)
  where
    go : (o : Option ℕ) → flags_in o ≡ done g → o ≡ none
    go none h = refl
    go (Option.some i) h = let z : ◌≡◌ {A = ℕ} 0 1 = cc in absurd (omega arith)

-- ---- an edit, accepted or refused

edited-true : (e : Edit) (s : List ℕ) (t : CountedTable) → TrueOf s t → Lent s → (c : Call e s t) → c.answer.number ≡ 0
    → TrueOf (block_of c) c.answer.table
edited-true (integers position start end new flags) s t true_of p c z =
    let v = c.slots in
    edit-true integers-count s t true_of position start end (given_optional (length v.0) (length v.1) (length new) flags) (slot_list new flags)
    (length v.0) c.out p c.lent (λ g h. words-fit new flags c.typed) (optional-some (length v.0) (length v.1) (length new) flags)
    c.promised.answer c.promised.output z
edited-true (deltas position start end new flags) s t true_of p c z =
    let v = c.slots in
    edit-true deltas-count s t true_of position start end (given_optional (length v.0) (length v.1) (length new) flags) (slot_list new flags)
    (length v.0) c.out p c.lent (λ g h. given-fit i64_e (pos 0) new flags c.typed) (optional-some (length v.0) (length v.1) (length new) flags)
    c.promised.answer c.promised.output z
edited-true (booleans position start end new) s t true_of p c z =
    edit-true booleans-count s t true_of position start end (given_boolean new) new (length c.slots) c.out p c.lent (clean-given new) (boolean-some new)
    c.promised.answer c.promised.output z
edited-true (names position start end bytes starts lens flags) s t true_of p c z =
    let v = c.slots in
    edit-true names-count s t true_of position start end (given_text (length v.0) (length v.1) (length v.2) bytes starts lens flags)
    (name_list bytes starts lens flags) (length v.0) c.out p c.lent
    (λ g h. texts-fit bytes c.typed.short 0 starts lens flags
    (names-good (length v.0) (length v.1) (length v.2) bytes starts lens flags h).names.texts)
    (text-some (length v.0) (length v.1) (length v.2) bytes starts lens flags) c.promised.answer c.promised.output z

given_back : (e : Edit) (s : List ℕ) (t : CountedTable) (c : Call e s t) → (c.answer.number ≡ 0 → ⊥) → c.answer.table ≡ t
given_back (integers position start end new flags) s t c h =
    lent_back integer t position (optional_lent integer s t position start end new flags (length c.slots.0) (length c.slots.1) (length c.out))
    c.promised.answer h
given_back (deltas position start end new flags) s t c h =
    lent_back delta t position (optional_lent delta s t position start end new flags (length c.slots.0) (length c.slots.1) (length c.out))
    c.promised.answer h
given_back (booleans position start end new) s t c h =
    lent_back boolean t position (boolean_lent boolean s t position start end new (length c.slots) (length c.out)) c.promised.answer h
given_back (names position start end bytes starts lens flags) s t c h =
    lent_back text t position
    (text_lent text s t position start end bytes starts lens flags (length c.slots.0) (length c.slots.1) (length c.slots.2) (length c.out))
    c.promised.answer h

-- ---- any sequence of calls

pub reached-true : {s : List ℕ} {t : CountedTable} → Reached s t → TrueOf s t
reached-true (opens s) = opened-true s
reached-true (counts {s} {t} position r) = count-true s t (reached-true r) position
reached-true (edits {s} {t} {e} p r c z) = edited-true e s t (reached-true r) p c z
reached-true (refuses {s} {t} {e} r c h) = subst (TrueOf s) (sym (given_back e s t c h)) (reached-true r)
