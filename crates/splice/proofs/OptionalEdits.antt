-- An edit of optional readings: its slots and its new list, where it is ready, and how it begins. Assumes nothing.
use Prim.Native.Nat.{ℕ, ◌-◌}
use mathlib.Core.Path.{◌≡◌, refl, sym, ap, ◌∙◌, subst}
use mathlib.Core.List.{List, ◌++◌, map}
use mathlib.Core.Option.{Option, none, some}
use mathlib.Core.Bool.{Bool, true, false, cond, ◌&&◌}
use native.Mathlib.Omega.{arith}
use lib.Dec.{eqb}
use lib.ListN.{length, take, drop, length-map}
use lib.Seq.{take_at}
use borrow.Author.Tests.{le-leb, eq-eqb, eqb-true}
use Rattle.leb128.specs.Answer.{Answer, done, refused, within, left}
use Rattle.encoding.specs.Given.{slot_list, bad_flag}
use Rattle.encoding.specs.Column.{Reading, value, values}
use Rattle.encoding.specs.Slots.{slot_of, flag_of, decoding, Decoded}
use Rattle.encoding.specs.Walk.{Trace, outcome}
use Rattle.slots.specs.Splice.{spliced, in_slots}
use Rattle.slots.proofs.Splicing.{map-spliced}
use Rattle.splice.specs.Kind.{Kind}
use Rattle.splice.specs.Edit.{Edited, end_in, flags_in, given_optional, refusal, answered, slots_left, out_left, Spliced}
use Rattle.splice.specs.declared.End.{End}
use Rattle.splice.specs.Contract.{slot_in, flag_in, OptionalSpliced}
use Rattle.splice.specs.Ready.{Ready, Fits, Replaced, Good, Finished}
use Rattle.splice.specs.Steps.{count_as, ready, stopped, plan_for}
use Rattle.splice.proofs.Planning.{sound-is, plan-stops, plan-ready, in_order}
use Rattle.splice.proofs.Replacing.{held-length, in-loaded, values_of, flags_of, back, flags-good, flags-kept}
use Rattle.splice.proofs.Counting.{values-outcome}
use Rattle.splice.proofs.Editing.{new_list, new-length, edit-answer, edit-output, edit-slots}

-- new readings that are good
pub record GoodNew (values present new : ℕ) (flags : List ℕ) : Type 0 where
  pub even : values ≡ present
  pub paired : length flags ≡ new
  pub clean : bad_flag 0 flags ≡ none

pub given-good : (values present new : ℕ) (flags : List ℕ) {g : ℕ} → given_optional values present new flags ≡ done g → GoodNew values present new flags
unfolding given_optional
given-good values present new flags {g} e = go (eqb values present) (eqb new (length flags)) (bad_flag 0 flags) refl refl refl e
  where
    go : (a b : Bool) (f : Option ℕ) → eqb values present ≡ a → eqb new (length flags) ≡ b → bad_flag 0 flags ≡ f
        → cond (a && b) (flags_in f) (refused 8 0) ≡ done g → GoodNew values present new flags
    go true true none x y w q = record { even = eqb-true values present x; paired = sym (eqb-true new (length flags) y); clean = w }
    go true true (some i) x y w q = let z : ◌≡◌ {A = ℕ} 0 1 = cc in absurd (omega arith)
    go true false f x y w q = let z : ◌≡◌ {A = ℕ} 0 1 = cc in absurd (omega arith)
    go false b f x y w q = let z : ◌≡◌ {A = ℕ} 0 1 = cc in absurd (omega arith)

pub list_length : {A : Type 0} (z : A) (new : List A) (flags : List ℕ) → length flags ≡ length new → length new ≡ length (slot_list new flags)
list_length z new flags h = sym (held-length z new flags h) ∙ length-map (slot_list new flags) (slot_in z)

module _ {A : Type 0} (K : Kind (Option A)) (T : List ℕ → Trace (Reading A)) (same : (c : List ℕ) → K.reads c ≡ values (T c)) (z : A)
    {s : List ℕ} {position start : ℕ} {end : End} {at till old len : ℕ} (new : List A) (flags : List ℕ) (v : List A) (p : List ℕ)
    (R : Ready K s position start end (length new) (length v) at till old len) {g : ℕ}
    (given : given_optional (length v) (length p) (length new) flags ≡ done g) where
  good : GoodNew (length v) (length p) (length new) flags
  good = given-good (length v) (length p) (length new) flags given

  many : length new ≡ length (slot_list new flags)
  many = list_length z new flags good.paired

  abbrev rs : List (Reading A)
  rs = (T (take (till - at) (drop at s))).readings

  abbrev xs : List (Option A)
  xs = new_list K (slot_list new flags) many R

  trace-sound : outcome (T (take (till - at) (drop at s))) ≡ done old
  trace-sound = sym (values-outcome (T (take (till - at) (drop at s)))) ∙ ap outcome (sym (same (take (till - at) (drop at s)))) ∙ R.reads

  many_read : length rs ≡ old
  many_read = sound-is (T (take (till - at) (drop at s))) trace-sound

  module _ {v₁ : List A} {p₁ : List ℕ} {o : Answer} (D : Decoded (T (take (till - at) (drop at s))) (slot_of z) flag_of v v₁ p p₁ o) where
    answer-is : o ≡ done old
    unfolding decoding within
    answer-is = D.answer ∙ rw (eq-eqb (length v) (length p) good.even, trace-sound, le-leb old (length v) R.old_fits)

    loaded-values : v₁ ≡ map (slot_of z) rs ++ drop old v
    unfolding left
    loaded-values = D.values ∙ ap (λ (a : Answer). left a (map (slot_of z) rs) v) answer-is

    loaded-flags : p₁ ≡ map flag_of rs ++ drop old p
    unfolding left
    loaded-flags = D.flags ∙ ap (λ (a : Answer). left a (map flag_of rs) p) answer-is

    module _ {e : ℕ} (least : e ≡ end_in end old) where
      pub optional-fits : length v₁ ≡ length v → length p₁ ≡ length p → Fits start e old (length new) (length flags) (length v₁) (length p₁)
      optional-fits k l =
          record {
            ordered = omega (arith, least, in_order old start end R.not_below R.starts);
            within = omega (arith, least, R.within);
            old_fits = omega (arith, k, R.old_fits);
            new_fits = omega (arith, k, least, R.new_fits, R.long);
            even = l ∙ sym good.even ∙ sym k;
            paired = good.paired;
          }

      module _ {v₂ : List A} {p₂ : List ℕ} (P : Replaced z old start e new flags v₁ v₂ p₁ p₂) where
        list-is : map value rs ≡ (K.reads (take (till - at) (drop at s))).readings
        list-is = ap (λ (t : Trace (Option A)). t.readings) (sym (same (take (till - at) (drop at s))))

        holds : {B : Type 0} (f : Option A → B) (h : Reading A → B) → map h rs ≡ map f (map value rs)
            → spliced (map h rs) start e (map f (slot_list new flags)) ≡ map f xs
        holds f h k =
            ap (λ (n : ℕ). spliced (map h rs) start n (map f (slot_list new flags))) least
            ∙ ap (λ l. spliced l start (end_in end old) (map f (slot_list new flags))) k
            ∙ sym (map-spliced f (map value rs) start (end_in end old) (slot_list new flags))
            ∙ ap (λ (l : List (Option A)). map f (spliced l start (end_in end old) (slot_list new flags))) list-is

        values-hold : v₂ ≡ in_slots z v old (map (slot_in z) xs)
        values-hold =
            in-loaded z v old start e (map (slot_of z) rs) (map (slot_in z) (slot_list new flags)) (length-map rs (slot_of z) ∙ many_read) loaded-values P.values
            ∙ ap (in_slots z v old) (holds (slot_in z) (slot_of z) (values_of z rs))

        flags-hold : p₂ ≡ in_slots 0 p old (map flag_in xs)
        flags-hold =
            in-loaded 0 p old start e (map flag_of rs) flags (length-map rs flag_of ∙ many_read) loaded-flags P.presence
            ∙ ap (in_slots 0 p old) (ap (spliced (map flag_of rs) start e) (sym (flags-kept 0 new flags good.paired good.clean)) ∙ holds flag_in flag_of (flags_of rs))

        front : {B : Type 0} (y : B) (f : Option A → B) (w : List B) {w₂ : List B} → w₂ ≡ in_slots y w old (map f xs) → take len w₂ ≡ map f xs
        front y f w k = ap (take len) k ∙ take_at (map f xs) _ len (length-map xs f ∙ new-length K (slot_list new flags) many R)

        pub optional-good : Good (length (take len v₂)) (take len p₂)
        optional-good =
            let a = front z (slot_in z) v values-hold in
            let b = front 0 flag_in p flags-hold in
            record {
              even = ap length b ∙ length-map xs flag_in ∙ sym (length-map xs (slot_in z)) ∙ sym (ap length a);
              flagged = ap (bad_flag 0) b ∙ flags-good 0 xs;
              few = omega (arith, ap length a, length-map xs (slot_in z), new-length K (slot_list new flags) many R, R.few);
            }

        pub optional-done : {out out' : List ℕ} {r : Spliced} → K.keeps ≡ false → Finished K s position (slot_list (take len v₂) (take len p₂)) out out' r
            → OptionalSpliced K z s position start end new flags v v₂ p p₂ out out' r
        optional-done {out} {out'} {r} loads F =
            let a = front z (slot_in z) v values-hold in
            let b = front 0 flag_in p flags-hold in
            let l : slot_list (take len v₂) (take len p₂) ≡ xs = ap (λ (x : List A). slot_list x (take len p₂)) a ∙ ap (slot_list (map (slot_in z) xs)) b ∙ back z xs in
            let F' = subst (λ (x : List (Option A)). Finished K s position x out out' r) l F in
            record {
              answer = edit-answer K (slot_list new flags) many R given F';
              values = edit-slots K (slot_list new flags) many R given F' z (map (slot_in z)) v loads values-hold;
              presence = edit-slots K (slot_list new flags) many R given F' 0 (map flag_in) p loads flags-hold;
              output = edit-output K (slot_list new flags) many R given F';
            }

-- ---- an edit of optional readings as it begins: by its plan
module _ {A : Type 0} (K : Kind (Option A)) (z : A) (s : List ℕ) (position start : ℕ) (end : End) (new : List A) (flags : List ℕ) (v : List A) (p out : List ℕ)
    (counts : (c : List ℕ) → count_as K.kind c ≡ outcome (K.reads c)) where
  abbrev G : Answer
  G = given_optional (length v) (length p) (length new) flags

  readings : (g : ℕ) → G ≡ done g → length new ≡ length (slot_list new flags)
  readings g e = list_length z new flags (given-good (length v) (length p) (length new) flags e).paired

  pub optional-stopped : {number place : ℕ} {r : Spliced} → stopped number place ≡ plan_for K.kind s position start end G (length new) (length v)
      → r ≡ refusal number place → OptionalSpliced K z s position start end new flags v v p p out out r
  optional-stopped {number} {place} e a =
      let q = plan-stops K counts s position start end G (slot_list new flags) (length new) readings (length v) (length out) e in
      record {
        answer = a ∙ ap (answered K) (sym q);
        values = ap (λ (x : Edited (Option A)). slots_left z (map (slot_in z)) x v) (sym q);
        presence = ap (λ (x : Edited (Option A)). slots_left 0 (map flag_in) x p) (sym q);
        output = ap (λ (x : Edited (Option A)). out_left x out) (sym q);
      }

  given-zero : {g : ℕ} → G ≡ done g → G ≡ done 0
  unfolding given_optional
  given-zero e =
      let k = given-good (length v) (length p) (length new) flags e in
      let a : eqb (length v) (length p) ≡ true = eq-eqb (length v) (length p) k.even in
      let b : eqb (length new) (length flags) ≡ true = eq-eqb (length new) (length flags) (sym k.paired) in
      rw (a, b, k.clean)

  pub optional-ready : {at till old len : ℕ} → ready at till old len ≡ plan_for K.kind s position start end G (length new) (length v)
      → Ready K s position start end (length new) (length v) at till old len × (G ≡ done 0)
  optional-ready e =
      let r = plan-ready K counts s position start end G (slot_list new flags) (length new) readings (length v) (length out) e in
      (r.0, given-zero r.1.1)
