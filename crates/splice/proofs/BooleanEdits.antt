-- An edit of a boolean column: its slots and its new list, where it is ready, and how it begins. Assumes nothing.
use Prim.Native.Nat.{ℕ, ◌-◌}
use mathlib.Core.Path.{◌≡◌, refl, sym, ap, ◌∙◌, subst}
use mathlib.Core.List.{List, ◌++◌}
use mathlib.Core.Option.{Option, none, some}
use mathlib.Core.Bool.{true}
use native.Mathlib.Omega.{arith}
use lib.Dec.{eqb}
use lib.ListN.{length, take, drop}
use lib.Seq.{take_at}
use borrow.Author.Tests.{le-leb, eq-eqb}
use Rattle.leb128.specs.Answer.{Answer, done, within, left}
use Rattle.encoding.specs.Given.{bad_flag}
use Rattle.boolean_decoder.specs.Decoded.{Decoded}
use Rattle.boolean_decoder.specs.Turns.{bool_trace}
use Rattle.boolean_decoder.proofs.Clean.{Clean, clean-from, clean-append, clean-take, clean_drop, read-clean}
use Rattle.slots.specs.Splice.{spliced, in_slots, spliced_slots, splice_answer}
use Rattle.splice.specs.Edit.{Edited, end_in, flags_in, given_optional, given_boolean, refusal, answered, slots_left, out_left, Spliced}
use Rattle.splice.specs.declared.End.{End}
use Rattle.splice.specs.Kinds.{boolean}
use Rattle.splice.specs.Contract.{itself, BooleanSpliced}
use Rattle.splice.specs.Ready.{Ready, Good, Finished}
use Rattle.splice.specs.Steps.{ready, stopped, plan_for}
use Rattle.splice.proofs.Planning.{sound-is, plan-stops, plan-ready, in_order}
use Rattle.splice.proofs.Replacing.{splice-fits, in-loaded}
use Rattle.splice.proofs.Editing.{new_list, new-length, edit-answer, edit-output, edit-slots}
use Rattle.splice.proofs.Counting.{boolean-counts}

given-clean : (new : List ℕ) {g : ℕ} → given_boolean new ≡ done g → Clean new
unfolding given_boolean
given-clean new {g} e = clean-from 0 new (go (bad_flag 0 new) refl e)
  where
    go : (b : Option ℕ) → bad_flag 0 new ≡ b → flags_in b ≡ done g → bad_flag 0 new ≡ none
    go none h q = h
    go (some i) h q = let z : ◌≡◌ {A = ℕ} 0 1 = cc in absurd (omega arith)

module _ {s : List ℕ} {position start : ℕ} {end : End} {at till old len : ℕ} (new v : List ℕ)
    (R : Ready boolean s position start end (length new) (length v) at till old len) {g : ℕ} (given : given_boolean new ≡ done g) where
  abbrev rs : List ℕ
  rs = (bool_trace (take (till - at) (drop at s))).readings

  abbrev xs : List ℕ
  xs = new_list boolean new refl R

  many_read : length rs ≡ old
  many_read = sound-is (bool_trace (take (till - at) (drop at s))) R.reads

  module _ {v₁ : List ℕ} {o : Answer} (D : Decoded (bool_trace (take (till - at) (drop at s))) v v₁ o) (kept : length v₁ ≡ length v) {e : ℕ} (least : e ≡ end_in end old) where
    answer-is : o ≡ done old
    unfolding within
    answer-is = D.answer ∙ rw (R.reads, le-leb old (length v) R.old_fits)

    loaded : v₁ ≡ rs ++ drop old v
    unfolding left
    loaded = D.values ∙ ap (λ (a : Answer). left a rs v) answer-is

    module _ {v₂ : List ℕ} (P : v₂ ≡ spliced_slots 0 (splice_answer (length v₁) old start e (length new)) v₁ old start e new) where
      holds : v₂ ≡ in_slots 0 v old xs
      holds =
          in-loaded 0 v old start e rs new many_read loaded
          (splice-fits 0 v₁ old start e new (omega (arith, least, in_order old start end R.not_below R.starts)) (omega (arith, least, R.within)) (omega (arith, kept, R.old_fits))
          (omega (arith, kept, least, R.new_fits, R.long)) P)
          ∙ ap (λ (n : ℕ). in_slots 0 v old (spliced rs start n new)) least

      front : take len v₂ ≡ xs
      front = ap (take len) holds ∙ take_at xs _ len (new-length boolean new refl R)

      xs-clean : Clean xs
      xs-clean =
          let r = read-clean (take (till - at) (drop at s)) in
          clean-append (take start rs) (new ++ drop (end_in end old) rs) (clean-take start rs r)
          (clean-append new (drop (end_in end old) rs) (given-clean new given) (clean_drop (end_in end old) rs r))

      pub boolean-good : Good (length (take len v₂)) (take len v₂)
      boolean-good =
          record {
            even = refl;
            flagged = ap (bad_flag 0) front ∙ xs-clean 0;
            few = omega (arith, ap length front, new-length boolean new refl R, R.few);
          }

      pub boolean-done : {out out' : List ℕ} {r : Spliced} → Finished boolean s position (take len v₂) out out' r
          → BooleanSpliced boolean s position start end new v v₂ out out' r
      boolean-done {out} {out'} {r} F =
          let F' = subst (λ (x : List ℕ). Finished boolean s position x out out' r) front F in
          record {
            answer = edit-answer boolean new refl R given F';
            values = edit-slots boolean new refl R given F' 0 itself v refl holds;
            output = edit-output boolean new refl R given F';
          }

-- ---- as it begins: by its plan, for which new values are readings that are all present
module _ (s : List ℕ) (position start : ℕ) (end : End) (new v out : List ℕ) where
  abbrev G : Answer
  G = given_optional (length v) (length v) (length new) new

  given_is : G ≡ given_boolean new
  unfolding given_optional given_boolean
  given_is =
      let a : eqb (length v) (length v) ≡ true = eq-eqb (length v) (length v) refl in
      let b : eqb (length new) (length new) ≡ true = eq-eqb (length new) (length new) refl in
      rw (a, b)

  as-planned : plan_for boolean.kind s position start end G (length new) (length v) ≡ plan_for boolean.kind s position start end (given_boolean new) (length new) (length v)
  as-planned = ap (λ (g : Answer). plan_for boolean.kind s position start end g (length new) (length v)) given_is

  pub boolean-stopped : {number place : ℕ} {r : Spliced} → stopped number place ≡ plan_for boolean.kind s position start end G (length new) (length v)
      → r ≡ refusal number place → BooleanSpliced boolean s position start end new v v out out r
  boolean-stopped {number} {place} q a =
      let k = plan-stops boolean boolean-counts s position start end (given_boolean new) new (length new) (λ g h. refl) (length v) (length out) (q ∙ as-planned) in
      record {
        answer = a ∙ ap (answered boolean) (sym k);
        values = ap (λ (x : Edited ℕ). slots_left 0 itself x v) (sym k);
        output = ap (λ (x : Edited ℕ). out_left x out) (sym k);
      }

  given-zero : {g : ℕ} → given_boolean new ≡ done g → given_boolean new ≡ done 0
  unfolding given_boolean
  given-zero h = ap flags_in (given-clean new h 0)

  pub boolean-ready : {at till old len : ℕ} → ready at till old len ≡ plan_for boolean.kind s position start end G (length new) (length v)
      → Ready boolean s position start end (length new) (length v) at till old len × (given_boolean new ≡ done 0)
  boolean-ready q =
      let k = plan-ready boolean boolean-counts s position start end (given_boolean new) new (length new) (λ g h. refl) (length v) (length out) (q ∙ as-planned) in
      (k.0, given-zero k.1.1)
