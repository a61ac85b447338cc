-- A replay: one law for each way out of it. What was decoded is what a log that was judged is followed over, and what is in the slots behind it is
-- written. Assumes nothing.
use Prim.Native.Nat.{ℕ, ◌+◌, ◌-◌, ◌≤◌, ◌<◌, max}
use mathlib.Core.Path.{◌≡◌, refl, sym, ap, ◌∙◌, subst}
use mathlib.Core.List.{List, [], ◌∷◌, ◌++◌, map}
use mathlib.Core.Option.{Option, none, some}
use mathlib.Core.Bool.{Bool, true, false, cond}
use native.Mathlib.Omega.{arith}
use lib.Dec.{leb, eqb}
use lib.IntN.{ℤ, pos}
use lib.ListN.{length, take, drop, replicate, length-map}
use lib.Seq.{take_at, drop-append-add, drop-drop}
use borrow.Author.Tests.{le-leb, lt-leb, eq-eqb, ne_eqb}
use Rattle.leb128.specs.Answer.{Answer, done, refused, within, left}
use Rattle.encoding.specs.Column.{Reading, value}
use Rattle.encoding.specs.Given.{slot_list, bad_flag, sized, Encoded}
use Rattle.encoding.specs.Limit.{limit}
use Rattle.encoding.specs.Slots.{slot_of, flag_of, decoding, Decoded}
use Rattle.encoding.specs.Walk.{Trace, outcome}
use Rattle.delta_decoder.specs.Sums.{delta_trace}
use Rattle.delta_decoder.proofs.Limits.{delta-limit}
use Rattle.delta_encoder.specs.Differences.{delta_bytes, delta_judged}
use Rattle.slots.specs.Splice.{in_slots}
use Rattle.splice.specs.Contract.{slot_in, flag_in, itself}
use Rattle.splice.specs.Edit.{Edited, stop, late, accepted, finished, slots_left, out_left}
use Rattle.splice.specs.Kinds.{delta}
use Rattle.splice.specs.Ready.{Good}
use Rattle.splice.proofs.Planning.{sound-is}
use Rattle.splice.proofs.Replacing.{held-length, values_of, flags_of, back, flags-good}
use Rattle.splice.proofs.Writing.{judged_as, delta-judged}
use Rattle.pen_log.specs.Following.{list_in, Ready, Followed, Finishes, Judged}
use Rattle.pen_log.specs.Lengths.{judged_from}
use Rattle.pen_log.specs.Log.{Placed, entries, all_applied, longest}
use Rattle.pen_log.specs.Replay.{judge, old_list, replayed, Told, written, refusal, told, Replays}
use Rattle.pen_log.proofs.Following.{last-longest}
use Rattle.pen_log.proofs.Judging.{judge-lengths}

-- ---- a list written

-- what the writer answers, told with the number of readings
abbrev pub told_by : ℕ → Answer → Told
told_by n (done size) = written n size
told_by n (refused number place) = refusal number place

module _ (v : List ℤ) (p : List ℕ) (g : Good (length v) p) {out out' : List ℕ} {a : Answer} (E : Encoded (delta_bytes (slot_list v p)) (delta_judged v p) out out' a) where
  abbrev held : List (Option ℤ)
  held = slot_list v p

  as-told : Finishes held out out' (told_by (length held) a)
  unfolding sized within left
  as-told =
      let e = E.answer ∙ ap (λ (j : Answer). within 10 (length out) (sized (delta_bytes held) j)) (delta-judged v p g) in
      let o = E.output ∙ ap (λ (j : Answer). left j (delta_bytes held) out) e in
      record { answer = ap (told_by (length held)) e ∙ tells (delta.wide held); output = o ∙ leaves (delta.wide held) }
    where
      tells : (w : Option ℕ) → told_by (length held) (within 10 (length out) (sized (delta_bytes held) (judged_as (length v) w))) ≡ told (finished delta 0 held (length out) itself w)
      tells (some i) = refl
      tells none = go (leb (length (delta_bytes held)) (length out))
        where
          go : (t : Bool) → told_by (length held) (cond t (done (length (delta_bytes held))) (refused 10 0)) ≡ told (cond t (accepted 0 held (delta_bytes held)) (late 10 0 0 held))
          go true = refl
          go false = refl

      leaves : (w : Option ℕ) → left (within 10 (length out) (sized (delta_bytes held) (judged_as (length v) w))) (delta_bytes held) out ≡ out_left (finished delta 0 held (length out) itself w) out
      leaves (some i) = refl
      leaves none = go (leb (length (delta_bytes held)) (length out))
        where
          go : (t : Bool) → left (cond t (done (length (delta_bytes held))) (refused 10 0)) (delta_bytes held) out ≡ out_left (cond t (accepted 0 held (delta_bytes held)) (late 10 0 0 held)) out
          go true = refl
          go false = refl

  -- by the arm that the answer came to
  pub finishes : (n : ℕ) → length v ≡ n → {b : Answer} → a ≡ b → Finishes held out out' (told_by n b)
  finishes n l {b} q =
      let k : length held ≡ n = sym (length-map held (slot_in (pos 0))) ∙ held-length (pos 0) v p g.even ∙ l in
      subst (λ (o : Told). Finishes held out out' o) (ap (told_by (length held)) q ∙ ap (λ (i : ℕ). told_by i b) k) as-told

-- its end goes by the longest list in the slots alone
module _ (xs : List (Option ℤ)) (room : ℕ) where
  same-told : (n m : ℕ) (w : Option ℕ) → told (finished delta n xs room itself w) ≡ told (finished delta m xs room itself w)
  same-told n m (some i) = refl
  same-told n m none = go (leb (length (delta_bytes xs)) room)
    where
      go : (t : Bool) → told (cond t (accepted n xs (delta_bytes xs)) (late 10 0 n xs)) ≡ told (cond t (accepted m xs (delta_bytes xs)) (late 10 0 m xs))
      go true = refl
      go false = refl

  same_out : (n m : ℕ) (w : Option ℕ) (out : List ℕ) → out_left (finished delta n xs room itself w) out ≡ out_left (finished delta m xs room itself w) out
  same_out n m (some i) out = refl
  same_out n m none out = go (leb (length (delta_bytes xs)) room)
    where
      go : (t : Bool) → out_left (cond t (accepted n xs (delta_bytes xs)) (late 10 0 n xs)) out ≡ out_left (cond t (accepted m xs (delta_bytes xs)) (late 10 0 m xs)) out
      go true = refl
      go false = refl

  slots-are : {B : Type 0} (z : B) (f : List (Option ℤ) → List B) (n : ℕ) (w : Option ℕ) (slots : List B)
      → slots_left z f (finished delta n xs room itself w) slots ≡ in_slots z slots n (f xs)
  slots-are z f n (some i) slots = refl
  slots-are z f n none slots = go (leb (length (delta_bytes xs)) room)
    where
      go : (t : Bool) → slots_left z f (cond t (accepted n xs (delta_bytes xs)) (late 10 0 n xs)) slots ≡ in_slots z slots n (f xs)
      go true = refl
      go false = refl

-- ---- stopped before the slots are filled

module _ (column log : List ℕ) (v : List ℤ) (p out : List ℕ) where
  abbrev R : Edited (Option ℤ)
  R = replayed column log (length v) (length p) (length out)

  stops : (number place : ℕ) → R ≡ stop number place → Replays column log v v p p out out (refusal number place)
  stops number place e =
      record {
        answer = ap told (sym e);
        values = ap (λ (x : Edited (Option ℤ)). slots_left (pos 0) (map (slot_in (pos 0))) x v) (sym e);
        presence = ap (λ (x : Edited (Option ℤ)). slots_left 0 (map flag_in) x p) (sym e);
        output = ap (λ (x : Edited (Option ℤ)). out_left x out) (sym e);
      }

  pub replay-8 : (length v ≡ length p → ⊥) → Replays column log v v p p out out (refusal 8 0)
  unfolding replayed decoding
  replay-8 h = stops 8 0 (rw (ne_eqb (length v) (length p) h))

  module _ (even : length v ≡ length p) where
    pub replay-fault : {number place : ℕ} → outcome (delta_trace column) ≡ refused number place → Replays column log v v p p out out (refusal number place)
    unfolding replayed decoding within
    replay-fault {number} {place} e = stops number place (rw (eq-eqb (length v) (length p) even, e))

    pub replay-9 : {old : ℕ} → outcome (delta_trace column) ≡ done old → length v < old → Replays column log v v p p out out (refusal 9 0)
    unfolding replayed decoding within
    replay-9 {old} e h = stops 9 0 (rw (eq-eqb (length v) (length p) even, e, lt-leb old (length v) h))

    module _ {old : ℕ} (e : outcome (delta_trace column) ≡ done old) (h : old ≤ length v) where
      many : length (old_list column) ≡ old
      many = length-map (delta_trace column).readings value ∙ sound-is (delta_trace column) e

      judged-is : judge (length v) (old_list column) (entries log).readings (entries log).ending ≡ judged_from (length v) old (entries log)
      judged-is =
          judge-lengths (length v) (old_list column) (entries log).readings (entries log).ending
          ∙ ap (λ (n : ℕ). judged_from (length v) n (entries log)) many

      pub replay-entry : {number place : ℕ} → judged_from (length v) old (entries log) ≡ refused number place
          → Replays column log v v p p out out (refusal number place)
      unfolding replayed decoding within
      replay-entry {number} {place} q =
          stops number place (rw (eq-eqb (length v) (length p) even, e, le-leb old (length v) h, judged-is ∙ q))

      followed-is : {final : ℕ} → judged_from (length v) old (entries log) ≡ done final
          → let ys = all_applied (entries log).readings (old_list column) in R ≡ finished delta (longest (entries log).readings (old_list column)) ys (length out) itself (delta.wide ys)
      unfolding replayed decoding within
      followed-is q = rw (eq-eqb (length v) (length p) even, e, le-leb old (length v) h, judged-is ∙ q)

-- how many readings a column can have
pub few-read : (column : List ℕ) {old : ℕ} → outcome (delta_trace column) ≡ done old → old ≤ limit
few-read column e = omega (arith, sound-is (delta_trace column) e, delta-limit column)

-- ---- a log that was judged, over what was decoded

first-longest : (es : List Placed) (xs : List (Option ℤ)) → length xs ≤ longest es xs
unfolding longest
first-longest [] xs = omega arith
first-longest (e ∷ es) xs = omega arith

module _ (column log : List ℕ) (v : List ℤ) (p : List ℕ) {old : ℕ} (J : Judged column log old (length v) (length p))
    {v₁ : List ℤ} {p₁ : List ℕ} {a : Answer} (D : Decoded (delta_trace column) (slot_of (pos 0)) flag_of v v₁ p p₁ a) where
  abbrev rs : List (Reading ℤ)
  rs = (delta_trace column).readings

  abbrev xs : List (Option ℤ)
  xs = old_list column

  read-many : length xs ≡ old
  read-many = many column log v p [] J.even J.reads J.fits

  decoded : a ≡ done old
  unfolding decoding within
  decoded = D.answer ∙ rw (eq-eqb (length v) (length p) J.even, J.reads, le-leb old (length v) J.fits)

  loaded-values : v₁ ≡ map (slot_in (pos 0)) xs ++ drop old v
  unfolding left
  loaded-values = D.values ∙ ap (λ (o : Answer). left o (map (slot_of (pos 0)) rs) v) decoded ∙ ap (λ l. l ++ drop old v) (values_of (pos 0) rs)

  loaded-flags : p₁ ≡ map flag_in xs ++ drop old p
  unfolding left
  loaded-flags = D.flags ∙ ap (λ (o : Answer). left o (map flag_of rs) p) decoded ∙ ap (λ l. l ++ drop old p) (flags_of rs)

  loaded-front : {B : Type 0} (f : Option ℤ → B) (w : List B) {w₁ : List B} → w₁ ≡ map f xs ++ drop old w → take old w₁ ≡ map f xs
  loaded-front f w e = ap (take old) e ∙ take_at (map f xs) (drop old w) old (length-map xs f ∙ read-many)

  list-is : list_in old v₁ p₁ ≡ xs
  list-is =
      ap (λ l. slot_list l (take old p₁)) (loaded-front (slot_in (pos 0)) v loaded-values) ∙ ap (slot_list (map (slot_in (pos 0)) xs)) (loaded-front flag_in p loaded-flags)
      ∙ back (pos 0) xs

  module _ (x : length v₁ ≡ length v) (y : length p₁ ≡ length p) where
    pub follow-ready : Ready log old v₁ p₁
    follow-ready =
        record {
          fits = omega (arith, x, J.fits);
          few = few-read column J.reads;
          even = y ∙ sym J.even ∙ sym x;
          values = loaded-front (slot_in (pos 0)) v loaded-values ∙ ap (map (slot_in (pos 0))) (sym list-is);
          presence = loaded-front flag_in p loaded-flags ∙ ap (map flag_in) (sym list-is);
          final = J.final;
          good = ap (λ (n : ℕ). judged_from n old (entries log)) x ∙ J.good;
        }

    module _ {v₂ : List ℤ} {p₂ : List ℕ} {len : ℕ} (F : Followed log (list_in old v₁ p₁) v₁ v₂ p₁ p₂ len) where
      abbrev ys : List (Option ℤ)
      ys = all_applied (entries log).readings xs

      abbrev L : ℕ
      L = longest (entries log).readings xs

      followed : Followed log xs v₁ v₂ p₁ p₂ len
      followed = subst (λ (l : List (Option ℤ)). Followed log l v₁ v₂ p₁ p₂ len) list-is F

      -- behind the longest list the slots are as they were before the column was decoded
      as_before : {B : Type 0} (z : B) (f : Option ℤ → B) (w : List B) {w₁ w₂ : List B} → w₁ ≡ map f xs ++ drop old w → w₂ ≡ in_slots z w₁ L (map f ys)
          → w₂ ≡ in_slots z w L (map f ys)
      as_before z f w {w₁} {w₂} d e =
          let n = max L (length (map f ys)) in
          let k : n ≡ length (map f xs) + (n - old) = omega (arith, length-map xs f, read-many, first-longest (entries log).readings xs) in
          let j : old + (n - old) ≡ n = omega (arith, read-many, first-longest (entries log).readings xs) in
          let q : drop n w₁ ≡ drop n w =
          ap (drop n) d ∙ ap (λ (i : ℕ). drop i (map f xs ++ drop old w)) k ∙ drop-append-add (map f xs) (drop old w) (n - old) ∙ drop-drop (n - old) old w
          ∙ ap (λ (i : ℕ). drop i w) j in
          e ∙ ap (λ l. map f ys ++ (replicate (L - length (map f ys)) z ++ l)) q

      values-hold : v₂ ≡ in_slots (pos 0) v L (map (slot_in (pos 0)) ys)
      values-hold = as_before (pos 0) (slot_in (pos 0)) v loaded-values followed.values

      flags-hold : p₂ ≡ in_slots 0 p L (map flag_in ys)
      flags-hold = as_before 0 flag_in p loaded-flags followed.presence

      front : {B : Type 0} (z : B) (f : Option ℤ → B) (w : List B) {w₂ : List B} → w₂ ≡ in_slots z w L (map f ys) → take len w₂ ≡ map f ys
      front z f w e = ap (take len) e ∙ take_at (map f ys) _ len (length-map ys f ∙ sym followed.long)

      pub finish-good : Good (length (take len v₂)) (take len p₂)
      finish-good =
          let b = front (pos 0) (slot_in (pos 0)) v values-hold in
          let c = front 0 flag_in p flags-hold in
          record {
            even = ap length c ∙ length-map ys flag_in ∙ sym (length-map ys (slot_in (pos 0))) ∙ sym (ap length b);
            flagged = ap (bad_flag 0) c ∙ flags-good 0 ys;
            few = omega (arith, ap length b, length-map ys (slot_in (pos 0)), followed.long, followed.few);
          }

      pub replay-done : {out out' : List ℕ} {o : Told} → Finishes (list_in len v₂ p₂) out out' o → Replays column log v v₂ p p₂ out out' o
      replay-done {out} {out'} {o} E =
          let b = front (pos 0) (slot_in (pos 0)) v values-hold in
          let c = front 0 flag_in p flags-hold in
          let l : list_in len v₂ p₂ ≡ ys = ap (λ (i : List ℤ). slot_list i (take len p₂)) b ∙ ap (slot_list (map (slot_in (pos 0)) ys)) c ∙ back (pos 0) ys in
          let W = subst (λ (i : List (Option ℤ)). Finishes i out out' o) l E in
          let q = followed-is column log v p out J.even J.reads J.fits J.good in
          record {
            answer = W.answer ∙ same-told ys (length out) 0 L (delta.wide ys) ∙ ap told (sym q);
            values =
                values-hold ∙ sym (slots-are ys (length out) (pos 0) (map (slot_in (pos 0))) L (delta.wide ys) v)
                ∙ ap (λ (i : Edited (Option ℤ)). slots_left (pos 0) (map (slot_in (pos 0))) i v) (sym q);
            presence =
                flags-hold ∙ sym (slots-are ys (length out) 0 (map flag_in) L (delta.wide ys) p) ∙ ap (λ (i : Edited (Option ℤ)). slots_left 0 (map flag_in) i p) (sym q);
            output = W.output ∙ same_out ys (length out) 0 L (delta.wide ys) out ∙ ap (λ (i : Edited (Option ℤ)). out_left i out) (sym q);
          }
