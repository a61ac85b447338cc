-- The new block written around its new column, over the kind of column: one law for each way out. Assumes nothing.
use Prim.Native.Nat.{ℕ, ◌+◌, ◌-◌, ◌^◌, ◌≤◌, ◌<◌}
use mathlib.Core.Path.{◌≡◌, refl, sym, ap, ◌∙◌}
use mathlib.Core.List.{List, [], ◌++◌, append-nil}
use mathlib.Core.Option.{Option, none, some}
use mathlib.Core.Bool.{Bool, true, false, cond}
use native.Mathlib.Omega.{arith}
use lib.Dec.{leb}
use lib.IntN.{ℤ, pos}
use lib.ListN.{length, take, drop, length-drop, drop_of_length-le}
use lib.Seq.{take_at, take_all}
use borrow.Rule.Slice.PartMut.{put_mid, post_of}
use borrow.Author.Tests.{leb-true, leb-false, le-leb, eq-eqb}
use Rattle.leb128.specs.Answer.{Answer, done, refused, within, left}
use Rattle.encoding.specs.Limit.{limit}
use Rattle.encoding.specs.Given.{slot_list, flags_judged, list_judged, sized, Encoded}
use Rattle.delta_encoder.specs.Differences.{differences, wide_at, width_judged, delta_judged}
use Rattle.raw_column.specs.Rows.{opened}
use Rattle.raw_column.specs.Table.{tab, parse}
use Rattle.raw_column.specs.declared.TableAnswer.{TableAnswer}
use Rattle.raw_column.proofs.Opening.{open-bad, open-good}
use Rattle.block_frame.specs.Columns.{new_block}
use Rattle.block_frame.specs.Frame.{Framed, shut, room, front_of, tail_of, framed, frame_of, frame_out}
use Rattle.block_frame.specs.Frame.{Frame}
use Rattle.block_frame.proofs.Blocks.{others-kept, frame-given, frame_refused, frame-is-block, frame-filled}
use Rattle.splice.specs.Kind.{Kind}
use Rattle.splice.specs.Edit.{Edited, accepted, refuses, finished, refusal, acceptance, block_in, block_answer, readings_in, readings_of, answered, out_left, Spliced}
use Rattle.splice.proofs.Refusing.{refuses-answer, refuses-out}
use Rattle.splice.specs.Ready.{HasRow, Good, put_behind, finished_at, Finished}

-- ---- a good list is judged so, and its bytes fit where there is room
pub good-judged : {n : ℕ} {flags : List ℕ} → Good n flags → list_judged n flags ≡ done n
unfolding list_judged flags_judged
good-judged {n} {flags} g = rw (eq-eqb n (length flags) (sym g.even), g.flagged, le-leb n limit g.few)

pub encoded-fits : {bytes : List ℕ} {judged : Answer} {m : ℕ} {out out' : List ℕ} {o : Answer} → Encoded bytes judged out out' o → judged ≡ done m
    → length bytes ≤ length out → out' ≡ bytes ++ drop (length bytes) out
unfolding sized within left
encoded-fits {bytes} {judged} {m} {out} {out'} {o} e j h =
    let a : o ≡ done (length bytes) = e.answer ∙ ap (λ (z : Answer). within 10 (length out) (sized bytes z)) j
    ∙ ap (λ (t : Bool). cond t (done (length bytes)) (refused 10 0)) (le-leb (length bytes) (length out) h) in
    e.output ∙ ap (λ (z : Answer). left z bytes out) a

-- a part of the output, lent from `at` on and filled at its front
pub lent_back : (at : ℕ) (out ys bytes : List ℕ) → at ≤ length out → ys ≡ bytes ++ drop (length bytes) (take (length out - at) (drop at out))
    → put_mid at (length out - at) out ys ≡ put_behind at bytes out
lent_back at out ys bytes h e =
    let k : take (length out - at) (drop at out) ≡ drop at out = take_all (length out - at) (drop at out) (omega (arith, length-drop at out)) in
    let l : length (drop at out) ≤ length out - at = omega (arith, length-drop at out) in
    let p : post_of at (length out - at) out ≡ [] = drop_of_length-le (drop at out) l in
    ap (λ (x : List ℕ). take at out ++ (ys ++ x)) p ∙ ap (λ (x : List ℕ). take at out ++ x) (append-nil ys ∙ e ∙ ap (λ (x : List ℕ). bytes ++ drop (length bytes) x) k)

-- ---- the size, as it is judged: 7 where a difference leaves i64
abbrev pub judged_as : ℕ → Option ℕ → Answer
judged_as n none = done n
judged_as n (some i) = refused 7 i

pub delta-judged : (v : List ℤ) (p : List ℕ) → Good (length v) p → delta_judged v p ≡ judged_as (length v) (wide_at 0 (differences (pos 0) (slot_list v p)))
unfolding delta_judged width_judged
delta-judged v p g = rw (good-judged g) (go (wide_at 0 (differences (pos 0) (slot_list v p))))
  where
    go : (w : Option ℕ) → width_judged (done (length v)) w ≡ judged_as (length v) w
    go none = refl
    go (some i) = refl

module _ (bytes : List ℕ) (m : ℕ) where
  pub size-done : (w : Option ℕ) {n : ℕ} → sized bytes (judged_as m w) ≡ done n → (n ≡ length bytes) × (w ≡ none)
  unfolding sized
  size-done none e = (cc, refl)
  size-done (some i) e = let z : ◌≡◌ {A = ℕ} 0 1 = cc in absurd (omega arith)

  pub size-refused : (w : Option ℕ) {number place : ℕ} → sized bytes (judged_as m w) ≡ refused number place → (w ≡ some place) × (number ≡ 7)
  unfolding sized
  size-refused none e = let z : ◌≡◌ {A = ℕ} 0 1 = cc in absurd (omega arith)
  size-refused (some i) {number} {place} e = let p : i ≡ place = cc in (ap some p, cc)

-- ---- the answer for bytes that were read as a table: refused as the table was, or its rows
pub block_refused : (k : ℕ) (b : List ℕ) {o : TableAnswer} → o ≡ opened (parse b) → (o.number ≡ 0 → ⊥) → refusal o.number o.place ≡ block_answer k b
unfolding block_answer
block_refused k b e h = rw (open-bad b e h)

pub block_read : (k : ℕ) (b : List ℕ) {o : TableAnswer} {n : ℕ} → o ≡ opened (parse b) → o.number ≡ 0 → n ≡ length b
    → record { table = o.table; number = 0; place = 0; len = n; readings = k } ≡ block_answer k b
unfolding block_answer
block_read k b {o} {n} e h l =
    ap (λ (x : TableAnswer). record { table = x.table; number = 0; place = 0; len = n; readings = k }) e
    ∙ ap (λ (m : ℕ). record { table = (opened (parse b)).table; number = 0; place = 0; len = m; readings = k }) l
    ∙ sym (ap (block_in k b) (open-good b e h).is)

-- a block that reads as a table is answered so
pub block-sound : (k : ℕ) (b : List ℕ) {specs lens : List ℕ} {next : ℕ} → parse b ≡ tab specs lens next → block_answer k b ≡ acceptance k b
unfolding block_answer
block-sound k b e = ap (block_in k b) e

-- ---- the ways out
module _ {A : Type 0} (K : Kind A) {s : List ℕ} {position : ℕ} (g : HasRow s position) (xs : List A) (out : List ℕ) where
  abbrev block_of : List ℕ → List ℕ
  block_of column = new_block s g.specs g.lens g.next position column

  abbrev W : List ℕ
  W = K.writes xs

  at_row : finished_at K s position xs (length out) ≡ finished K 0 xs (length out) block_of (K.wide xs)
  unfolding finished_at
  at_row = rw g.is

  by : {E : Edited A} {out' : List ℕ} {r : Spliced} → finished_at K s position xs (length out) ≡ E → r ≡ answered K E → out' ≡ out_left E out
      → Finished K s position xs out out' r
  by {E} e a o = record { answer = a ∙ ap (answered K) (sym e); output = o ∙ ap (λ (z : Edited A). out_left z out) (sym e) }

  pub finish-wide : {i : ℕ} {r : Spliced} → K.wide xs ≡ some i → r ≡ refusal 7 i → Finished K s position xs out out r
  finish-wide {i} e a =
      by (at_row ∙ ap (finished K 0 xs (length out) block_of) e) (a ∙ sym (refuses-answer K 7 i 0 xs)) (sym (refuses-out K 7 i 0 xs out))

  pub finish-refused : (m : ℕ) {number place : ℕ} {r : Spliced} → sized W (judged_as m (K.wide xs)) ≡ refused number place → r ≡ refusal number place
      → Finished K s position xs out out r
  finish-refused m {number} {place} e a = let q = size-refused W m (K.wide xs) e in finish-wide q.0 (a ∙ ap (λ (n : ℕ). refusal n place) q.1)

  module _ (narrow : K.wide xs ≡ none) {size : ℕ} (sizes : size ≡ length W) {f : Frame} {mid : List ℕ}
      (frame : f ≡ frame_of size (framed s position size (length out))) (made : mid ≡ frame_out size (framed s position size (length out)) out) where
    ends : finished_at K s position xs (length out) ≡ cond (leb (length (block_of W)) (length out)) (accepted 0 xs (block_of W)) (refuses K 10 0 0 xs)
    ends = at_row ∙ ap (finished K 0 xs (length out) block_of) narrow

    abbrev head : List ℕ
    head = front_of s g.specs g.lens g.next position size

    abbrev tail : List ℕ
    tail = tail_of s g.lens g.next position

    shut-10 : length out < length (block_of W) → framed s position size (length out) ≡ shut 10 0
    shut-10 h = ap (λ (n : ℕ). framed s position n (length out)) sizes ∙ frame_refused s g.specs g.lens g.next g.is position g.there W (length out) h

    given : length (block_of W) ≤ length out → framed s position size (length out) ≡ room head tail
    given h =
        ap (λ (n : ℕ). framed s position n (length out)) sizes ∙ frame-given s g.specs g.lens g.next g.is position g.there W (length out) h
        ∙ ap (λ (n : ℕ). room (front_of s g.specs g.lens g.next position n) tail) (sym sizes)

    pub finish-short : {r : Spliced} → (f.number ≡ 0 → ⊥) → r ≡ refusal f.number f.place → Finished K s position xs out mid r
    finish-short {r} h a = go (leb (length (block_of W)) (length out)) refl
      where
        go : (b : Bool) → leb (length (block_of W)) (length out) ≡ b → Finished K s position xs out mid r
        go true e = absurd (h (ap (λ (z : Frame). z.number) (frame ∙ ap (frame_of size) (given (leb-true (length (block_of W)) (length out) e)))))
        go false e =
            let q = shut-10 (leb-false (length (block_of W)) (length out) e) in
            let z : f ≡ frame_of size (shut 10 0) = frame ∙ ap (frame_of size) q in
            by (ends ∙ ap (λ (b : Bool). cond b (accepted 0 xs (block_of W)) (refuses K 10 0 0 xs)) e)
            (a ∙ ap (λ (y : Frame). refusal y.number y.place) z ∙ sym (refuses-answer K 10 0 0 xs))
            (made ∙ ap (λ (y : Framed). frame_out size y out) q ∙ sym (refuses-out K 10 0 0 xs out))

    -- where the frame leaves room for the column
    pub record Room : Type 0 where
      pub is : framed s position size (length out) ≡ room head tail
      pub at_is : f.at ≡ length head
      pub len_is : f.len ≡ length (block_of W)
      pub fits : length (block_of W) ≤ length out
      pub roomy : f.at + length W ≤ length out

    pub finish-room : f.number ≡ 0 → Room
    finish-room h = go (leb (length (block_of W)) (length out)) refl
      where
        go : (b : Bool) → leb (length (block_of W)) (length out) ≡ b → Room
        go true e =
            let l = leb-true (length (block_of W)) (length out) e in
            let q = given l in
            let z : f ≡ frame_of size (room head tail) = frame ∙ ap (frame_of size) q in
            let b = frame-is-block s g.specs g.lens g.next position size (length out) head tail g.is q W (sym sizes) in
            record {
              is = q;
              at_is = ap (λ (y : Frame). y.at) z;
              len_is = ap (λ (y : Frame). y.len) z ∙ sym b.1;
              fits = l;
              roomy = omega (arith, l, b.1, ap (λ (y : Frame). y.at) z, sizes);
            }
        go false e =
            let q = shut-10 (leb-false (length (block_of W)) (length out) e) in
            let z : ◌≡◌ {A = ℕ} 10 0 = sym (ap (λ (y : Frame). y.number) (frame ∙ ap (frame_of size) q)) ∙ h in
            absurd (omega (arith, z))

    pub finish-done : Room → length s < 2 ^ 64 → length out < 2 ^ 64 → {listed : ℕ} → listed ≡ length xs
        → {out' : List ℕ} {r : Spliced} → out' ≡ put_behind f.at W mid → r ≡ block_answer (readings_in size listed) (take f.len out')
        → Finished K s position xs out out' r
    finish-done m short small {listed} many {out'} {r} w a =
        let B = block_of W in
        let reads = (others-kept s g.specs g.lens g.next position W short g.is g.there (omega (arith, m.roomy, small))).table in
        let q : mid ≡ frame_out size (room head tail) out = made ∙ ap (λ (y : Framed). frame_out size y out) m.is in
        let o : out' ≡ B ++ drop (length B) out =
        w ∙ ap (λ (n : ℕ). put_behind n W mid) m.at_is ∙ ap (put_behind (length head) W) q
        ∙ ap (λ (n : ℕ). take (length head) (frame_out size (room head tail) out) ++ (W ++ drop n (drop (length head) (frame_out size (room head tail) out)))) (sym sizes)
        ∙ frame-filled s g.specs g.lens g.next position size (length out) head tail g.is m.is W (sym sizes) out refl in
        let t : take f.len out' ≡ B = ap (take f.len) o ∙ take_at B (drop (length B) out) f.len (sym m.len_is) in
        let n = readings_in size listed in
        let k : n ≡ readings_of K xs = ap (λ (i : ℕ). readings_in i listed) sizes ∙ ap (readings_in (length W)) many in
        by (ends ∙ ap (λ (b : Bool). cond b (accepted 0 xs B) (refuses K 10 0 0 xs)) (le-leb (length B) (length out) m.fits))
        (a ∙ ap (block_answer n) t ∙ block-sound n B reads ∙ ap (λ (i : ℕ). acceptance i B) k) o
