-- An edit of names that is ready: what its parts ask, and what its slots, output and answer come to. Assumes nothing.
use Prim.Native.Nat.{ℕ, ◌-◌, ◌^◌, ◌≤◌, ◌<◌, max}
use mathlib.Core.Path.{◌≡◌, refl, sym, ◌∙◌, ap}
use mathlib.Core.List.{List, ◌++◌, map}
use mathlib.Core.Option.{Option, none}
use mathlib.Core.Bool.{Bool, true, false, cond, ◌&&◌}
use native.Mathlib.Omega.{arith}
use lib.Dec.{leb, eqb}
use lib.ListN.{length, get_or, take, drop, length-map, length-append}
use borrow.Author.Tests.{leb-true, leb-false, le-leb, lt-leb, eqb-true, eq-eqb}
use Rattle.leb128.specs.Answer.{Answer, done, refused}
use Rattle.encoding.specs.Column.{value, trace}
use Rattle.encoding.specs.Limit.{limit}
use Rattle.encoding.specs.Slots.{flag_of}
use Rattle.encoding.specs.Walk.{outcome}
use Rattle.encoding.specs.Writer.{column_bytes}
use Rattle.encoding.proofs.Back.{ListFits}
use Rattle.text.specs.Text.{text_e}
use Rattle.text.specs.Name.{start_of, length_of}
use Rattle.text.specs.Given.{name_list, names_given}
use Rattle.text.proofs.Givens.{GivenGood, given-good, names-length, texts-fit}
use Rattle.text.proofs.Texts.{text-readable}
use Rattle.block_frame.specs.Columns.{new_block}
use Rattle.block_frame.specs.Frame.{front_of, tail_of}
use Rattle.block_frame.proofs.Blocks.{new-block}
use Rattle.slots.specs.Splice.{in_slots}
use Rattle.splice.specs.Edit.{Edited, stop, accepted, end_in, given_text, edited, answered, slots_left, out_left, refusal, Spliced}
use Rattle.splice.specs.Contract.{flag_in, starts_in, length_in, TextSpliced}
use Rattle.splice.specs.Kinds.{text}
use Rattle.splice.specs.Ready.{Ready, Finished}
use Rattle.splice.specs.declared.End.{End}
use Rattle.splice.specs.Steps.{ready, stopped, plan_for}
use Rattle.splice.proofs.Counting.{values-outcome, text-counts}
use Rattle.splice.proofs.Planning.{sound-is, in_order, plan-stops, plan-ready}
use Rattle.splice.proofs.Editing.{new-length, ready-edit, edit-answer, edit-output}
use Rattle.encoding.specs.Cases.{fit}
use Rattle.text_encoder.specs.Edits.{new_names, Spliceable, Refilled, Refillable}
use Rattle.encoding.proofs.Fits.{beyond-fit}
use Rattle.text_encoder.proofs.Pairs.{pairs-given}
use Rattle.text_encoder.proofs.WrittenNames.{fits-append, fits-take, fits-drop, length-same, flag_same, read_back, written, held}

-- ---- what was given
module _ (starts lens flags : ℕ) (bytes newStarts newLens newFlags : List ℕ) where
  pub record GoodNames : Type 0 where
    pub even : starts ≡ lens
    pub flagged : lens ≡ flags
    pub names : GivenGood bytes newStarts newLens newFlags

  pub names-good : {g : ℕ} → given_text starts lens flags bytes newStarts newLens newFlags ≡ done g → GoodNames
  unfolding given_text
  names-good {g} e = go (eqb starts lens) (eqb lens flags) refl refl e
    where
      go : (a b : Bool) → eqb starts lens ≡ a → eqb lens flags ≡ b
          → cond (a && b) (names_given bytes newStarts newLens newFlags) (refused 8 0) ≡ done g → GoodNames
      go true true x y q =
          record { even = eqb-true starts lens x; flagged = eqb-true lens flags y; names = given-good bytes newStarts newLens newFlags q }
      go true false x y q = let z : ◌≡◌ {A = ℕ} 0 1 = cc in absurd (omega arith)
      go false b x y q = let z : ◌≡◌ {A = ℕ} 0 1 = cc in absurd (omega arith)

module _ {s : List ℕ} {position start : ℕ} {end : End} {at till old len : ℕ} (bytes newStarts newLens newFlags a l p : List ℕ)
    (R : Ready text s position start end (length newStarts) (length a) at till old len)
    (given : given_text (length a) (length l) (length p) bytes newStarts newLens newFlags ≡ done 0) where
  good : GoodNames (length a) (length l) (length p) bytes newStarts newLens newFlags
  good = names-good (length a) (length l) (length p) bytes newStarts newLens newFlags given

  abbrev column : List ℕ
  column = take (till - at) (drop at s)

  abbrev new : List (Option (List ℕ))
  new = name_list bytes newStarts newLens newFlags

  many : length newStarts ≡ length new
  many = sym (names-length bytes newStarts newLens newFlags good.names.even good.names.flagged)

  -- the new list, and its bytes
  abbrev xs : List (Option (List ℕ))
  xs = new_names column bytes newStarts newLens newFlags start (end_in end old)

  abbrev W : List ℕ
  W = column_bytes text_e xs

  column-sound : outcome (trace text_e column) ≡ done old
  column-sound = sym (values-outcome (trace text_e column)) ∙ R.reads

  old-is : length (trace text_e column).readings ≡ old
  old-is = sound-is (trace text_e column) column-sound

  pub names-many : length xs ≡ len
  names-many = new-length text new many R

  pub names-spliceable : {e : ℕ} → e ≡ end_in end old → Spliceable column bytes newStarts newLens newFlags start e
  names-spliceable {e} h =
      rw h (record {
        pairs = pairs-given good.names;
        sound = column-sound ∙ ap done (sym old-is);
        ordered = in_order old start end R.not_below R.starts;
        within = omega (arith, R.within, old-is);
        few = omega (arith, names-many, R.few);
      })

  -- ---- how it ends: 10, or the new block

  abbrev B : List ℕ
  B = new_block s R.located.row.specs R.located.row.lens R.located.row.next position W

  abbrev edit_in : ℕ → Edited (Option (List ℕ))
  edit_in room = edited text s position start end (given_text (length a) (length l) (length p) bytes newStarts newLens newFlags) new (length a) room

  comes-to : (room : ℕ) → edit_in room ≡ cond (leb (length B) room) (accepted old xs B) (stop 10 0)
  comes-to room = ready-edit text new many R room given

  is-stopped : (room : ℕ) → room < length B → edit_in room ≡ stop 10 0
  is-stopped room h = comes-to room ∙ ap (λ (b : Bool). cond b (accepted old xs B) (stop 10 0)) (lt-leb (length B) room h)

  is-accepted : (room : ℕ) → length B ≤ room → edit_in room ≡ accepted old xs B
  is-accepted room h = comes-to room ∙ ap (λ (b : Bool). cond b (accepted old xs B) (stop 10 0)) (le-leb (length B) room h)

  -- the new column is in the new block
  column-within : length W ≤ length B
  column-within =
      let h = front_of s R.located.row.specs R.located.row.lens R.located.row.next position (length W) in
      let z = tail_of s R.located.row.lens R.located.row.next position in
      let e = new-block s R.located.row.specs R.located.row.lens R.located.row.next R.located.row.is position R.located.row.there W in
      omega (arith, ap length e, length-append h (W ++ z), length-append W z)

  module _ (out : List ℕ) where
    pub names-stopped : {r : Spliced} → length out < length B → r ≡ refusal 10 0
        → TextSpliced text s position start end bytes newStarts newLens newFlags a a l l p p out out r
    names-stopped h q =
        let e = is-stopped (length out) h in
        record {
          answer = q ∙ ap (answered text) (sym e);
          starts = ap (λ (x : Edited (Option (List ℕ))). slots_left 0 starts_in x a) (sym e);
          lens = ap (λ (x : Edited (Option (List ℕ))). slots_left 0 (map length_in) x l) (sym e);
          presence = ap (λ (x : Edited (Option (List ℕ))). slots_left 0 (map flag_in) x p) (sym e);
          output = ap (λ (x : Edited (Option (List ℕ))). out_left x out) (sym e);
        }

    -- more bytes than a u64 counts fit no output
    pub names-beyond : {r : Spliced} → length out < 2 ^ 64 → none ≡ fit (length W) → r ≡ refusal 10 0
        → TextSpliced text s position start end bytes newStarts newLens newFlags a a l l p p out out r
    names-beyond short e q = names-stopped (omega (arith, short, beyond-fit (length W) e, column-within)) q

    -- an output that is too short for the frame
    pub names-short : {mid : List ℕ} {r : Spliced} → Finished text s position xs out mid r → (r.number ≡ 0 → ⊥)
        → TextSpliced text s position start end bytes newStarts newLens newFlags a a l l p p out mid r
    names-short {mid} {r} F n = go (leb (length B) (length out)) refl
      where
        go : (t : Bool) → leb (length B) (length out) ≡ t → TextSpliced text s position start end bytes newStarts newLens newFlags a a l l p p out mid r
        go true h =
            let e = is-accepted (length out) (leb-true (length B) (length out) h) in
            absurd (n (ap (λ (x : Spliced). x.number) (edit-answer text new many R given F ∙ ap (answered text) e)))
        go false h =
            let e = is-stopped (length out) (leb-false (length B) (length out) h) in
            record {
              answer = edit-answer text new many R given F;
              starts = ap (λ (x : Edited (Option (List ℕ))). slots_left 0 starts_in x a) (sym e);
              lens = ap (λ (x : Edited (Option (List ℕ))). slots_left 0 (map length_in) x l) (sym e);
              presence = ap (λ (x : Edited (Option (List ℕ))). slots_left 0 (map flag_in) x p) (sym e);
              output = edit-output text new many R given F;
            }

  -- ---- the slots of an edit that is accepted

  module _ (byte : (i : ℕ) → get_or column i 0 < 256) (small : length bytes < 2 ^ 64) where
    fits : ListFits text_e xs
    fits =
        let o = text-readable column byte in
        fits-append (take start (map value (trace text_e column).readings)) _ (fits-take start (map value (trace text_e column).readings) o)
        (fits-append new _ (texts-fit bytes small 0 newStarts newLens newFlags good.names.texts) (fits-drop (end_in end old) (map value (trace text_e column).readings) o))

    few : length xs ≤ limit
    few = omega (arith, names-many, R.few)

    pub names-refillable : {m : ℕ} → m ≡ max old len → Refillable W m (length a) (length l) (length p)
    names-refillable {m} e =
        let w = written xs fits few in
        record {
          sound = w.sound;
          few = omega (arith, w.few, names-many, e);
          room = omega (arith, e, R.old_fits, R.new_fits);
          even = sym good.even;
          flagged = sym good.flagged ∙ sym good.even;
        }

    pub names-done : {m : ℕ} {a' l' p' out out' : List ℕ} {r : Spliced} → m ≡ max old len → length B ≤ length out → Refilled W m a a' l l' p p'
        → Finished text s position xs out out' r → TextSpliced text s position start end bytes newStarts newLens newFlags a a' l l' p p' out out' r
    names-done {m} {a'} {l'} {p'} {out} {out'} {r} e h Q F =
        let w = written xs fits few in
        let q = is-accepted (length out) h in
        let k : m ≡ max old (length xs) = e ∙ ap (max old) (sym names-many) in
        record {
          answer = edit-answer text new many R given F;
          starts = Q.starts ∙ held m old (length xs) (map start_of (read_back xs)) a k (omega (arith, w.few, length-map (read_back xs) start_of)) ∙ ap (λ (x : Edited (Option (List ℕ))). slots_left 0 starts_in x a) (sym q);
          lens =
              Q.lens ∙ held m old (length xs) (map length_of (read_back xs)) l k (omega (arith, w.few, length-map (read_back xs) length_of))
              ∙ ap (in_slots 0 l old) (w.all length_of length_in (λ r. length-same r) refl)
              ∙ ap (λ (x : Edited (Option (List ℕ))). slots_left 0 (map length_in) x l) (sym q);
          presence =
              Q.presence ∙ held m old (length xs) (map flag_of (read_back xs)) p k (omega (arith, w.few, length-map (read_back xs) flag_of))
              ∙ ap (in_slots 0 p old) (w.all flag_of flag_in (λ r. flag_same r) refl)
              ∙ ap (λ (x : Edited (Option (List ℕ))). slots_left 0 (map flag_in) x p) (sym q);
          output = edit-output text new many R given F;
        }

-- ---- as it begins: by its plan
module _ (s : List ℕ) (position start : ℕ) (end : End) (bytes newStarts newLens newFlags a l p out : List ℕ) where
  abbrev G : Answer
  G = given_text (length a) (length l) (length p) bytes newStarts newLens newFlags

  readings : (g : ℕ) → G ≡ done g → length newStarts ≡ length (name_list bytes newStarts newLens newFlags)
  readings g e =
      let k = (names-good (length a) (length l) (length p) bytes newStarts newLens newFlags e).names in
      sym (names-length bytes newStarts newLens newFlags k.even k.flagged)

  pub names-planned : {number place : ℕ} {r : Spliced} → stopped number place ≡ plan_for text.kind s position start end G (length newStarts) (length a)
      → r ≡ refusal number place → TextSpliced text s position start end bytes newStarts newLens newFlags a a l l p p out out r
  names-planned {number} {place} e q =
      let k = plan-stops text text-counts s position start end G (name_list bytes newStarts newLens newFlags) (length newStarts) readings (length a) (length out) e in
      record {
        answer = q ∙ ap (answered text) (sym k);
        starts = ap (λ (x : Edited (Option (List ℕ))). slots_left 0 starts_in x a) (sym k);
        lens = ap (λ (x : Edited (Option (List ℕ))). slots_left 0 (map length_in) x l) (sym k);
        presence = ap (λ (x : Edited (Option (List ℕ))). slots_left 0 (map flag_in) x p) (sym k);
        output = ap (λ (x : Edited (Option (List ℕ))). out_left x out) (sym k);
      }

  given-zero : {g : ℕ} → G ≡ done g → G ≡ done 0
  unfolding given_text names_given
  given-zero e =
      let k = names-good (length a) (length l) (length p) bytes newStarts newLens newFlags e in
      let n = k.names in
      rw (
        eq-eqb (length a) (length l) k.even,
        eq-eqb (length l) (length p) k.flagged,
        eq-eqb (length newStarts) (length newLens) (sym n.even),
        eq-eqb (length newLens) (length newFlags) (n.even ∙ sym n.flagged),
        n.pairs,
        n.texts,
      )

  pub names-ready : {at till old len : ℕ} → ready at till old len ≡ plan_for text.kind s position start end G (length newStarts) (length a)
      → Ready text s position start end (length newStarts) (length a) at till old len × (G ≡ done 0)
  names-ready e =
      let r = plan-ready text text-counts s position start end G (name_list bytes newStarts newLens newFlags) (length newStarts) readings (length a) (length out) e in
      (r.0, given-zero r.1.1)
