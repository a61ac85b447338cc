-- THE THEOREMS of pieces for columns of u64. From any state so many steps as a piece has times answer its reading each, and leave the state that it
-- leaves (`stands`). So from a new state the pieces' readings in order are what the trace of the column has to say (`nth-reading`): all of them
-- (`all-given`), in no more pieces than the column has bytes (`few-given`), and the piece behind them is its ending, however often asked
-- (`then-ending`). And what the code needs of a step. Assumes nothing.
use Prim.Native.Nat.{ℕ, zero, suc, ◌+◌, ◌-◌, ◌^◌, ◌≤◌, ◌<◌}
use mathlib.Core.Path.{◌≡◌, refl, sym, ◌∙◌, ap, subst}
use mathlib.Core.Bool.{Bool, true, false, cond}
use mathlib.Core.List.{List}
use native.Mathlib.Omega.{arith}
use lib.ListN.{length}
use lib.Dec.{ltb}
use borrow.Author.Tests.{lt-ltb, le-ltb}
use Rattle.std.specs.Prelude.{Ok, Option, Some, None}
use Rattle.encoding.specs.Limit.{limit}
use Rattle.encoding.specs.Walk.{Ending, sound, fault}
use Rattle.encoding.specs.Column.{Reading, absent, present, trace}
use Rattle.encoding.proofs.Lists.{cond-by}
use Rattle.cursor.specs.Steps.{Stepped, ends, gives, said, reading, ended, nth}
use Rattle.cursor.specs.Kept.{leaves, after}
use Rattle.cursor.specs.Cursor.{Sort, same, literal, Cursor, cursor, step}
use Rattle.cursor.specs.Taking.{Stands, readings_in}
use Rattle.cursor.proofs.Keeping.{checked-by}
use Rattle.cursor.proofs.Pieces.{weight, Fallen, Gives, Again, Given, step_same, step_given}
use Rattle.cursor.proofs.Taking as taking
use Rattle.rle_decoder.specs.Word.{u64_e}
use Rattle.rle_decoder.proofs.WordLaws.{u64-laws}
use Rattle.rle_cursor.specs.State.{cursor_of, kept_as, kept, new_for, answer_for, told, step_of}
use Rattle.rle_cursor.specs.Cases.{answer_of, stepped_of}
use Rattle.rle_cursor.specs.declared.RleCursor.{RleCursor}
use Rattle.rle_cursor.specs.declared.RleStepped as code
use Rattle.rle_cursor.specs.Answer.{RleAnswer, RleStepped}
use Rattle.rle_cursor.specs.Answer as answer
use Rattle.rle_cursor.proofs.Calls.{kept_step_lem, nth-answer}
use Rattle.pieces.specs.Cases.{rle_read}
use Rattle.pieces.specs.Rle.{RlePiece, RleTaken, taken, past, standing, took_of, piece_of}

-- a reading, and not an ending
abbrev pub is_reading : RleAnswer → Bool
is_reading (answer.Present value) = true
is_reading answer.Absent = true
is_reading answer.End = false
is_reading (answer.Refused number place) = false

-- ---- the code

module _ (k : RleCursor) (a : RleAnswer) where
  pub standing-alone : 2 ≤ k.sort → standing k a ≡ taken k a 1
  standing-alone l = ap (λ (b : Bool). cond b (taken (past k) a (suc k.left)) (taken k a 1)) (le-ltb k.sort 2 l)

  pub standing-again : (n : ℕ) → k.sort < 2 → n ≡ suc k.left → standing k a ≡ taken (past k) a n
  standing-again n l e =
      ap (λ (b : Bool). cond b (taken (past k) a (suc k.left)) (taken k a 1)) (lt-ltb k.sort 2 l) ∙ ap (taken (past k) a) (sym e)

-- a reading that the code has is one
pub read : (o : Option ℕ) → is_reading (answer_of (Ok (Some o))) ≡ true
read (Some value) = refl
read None = refl

pub took : (s : List ℕ) (k : RleCursor) {r : RleStepped} {a : RleAnswer} → r ≡ step_of s k → r.answer ≡ a → piece_of s k ≡ took_of r.cursor a
unfolding piece_of
took s k {r} e h = ap (λ (r : RleStepped). took_of r.cursor r.answer) (sym e) ∙ ap (took_of r.cursor) h

-- of a step in the code's types: a reading stands there, as the code's piece says
read-stands : (k : RleCursor) (o : Option ℕ) → took_of k (answer_of (Ok (Some o))) ≡ standing k (rle_read o)
read-stands k (Some value) = refl
read-stands k None = refl

pub took-read : (s : List ℕ) (k : RleCursor) {r : code.RleStepped} {o : Option ℕ} → stepped_of r ≡ step_of s k → r.answer ≡ Ok (Some o)
    → piece_of s k ≡ standing r.cursor (rle_read o)
took-read s k {r} {o} e h = took s k e (ap answer_of h) ∙ read-stands r.cursor o

-- ---- a step from any state, by what it gives

module _ (s : List ℕ) (k : RleCursor) (b : ℕ) (m : limit ≤ b) (l : k.left ≤ b) where
  by-step : (P : RleStepped → Type 0) → ((e : Ending) → P (told k (ends e)))
      → ((r : Reading ℕ) (d : Cursor ℕ) → k.len ≡ length s → Given u64_e u64-laws s b (cursor_of k) r d → P (told k (gives r d))) → P (step_of s k)
  unfolding step_of
  by-step P f g =
      checked-by k.len k.at s (step u64_e s (cursor_of k)) (λ x. P (told k x))
      (λ e w. go (step u64_e s (cursor_of k)) e (step_given u64_e u64-laws s b (cursor_of k) m w l)) (f (fault 24 0))
    where
      go : (x : Stepped (Reading ℕ) (Cursor ℕ)) → k.len ≡ length s → Gives (Given u64_e u64-laws s b (cursor_of k)) x → P (told k x)
      go (ends e) w h = f e
      go (gives r d) w h = g r d w h

kept-left : (len at had left : ℕ) (x : Sort ℕ) → (kept_as len at had left x).left ≡ left
kept-left len at had left (same absent) = refl
kept-left len at had left (same (present a q)) = refl
kept-left len at had left literal = refl

-- one more than are left behind a reading is a u64
pub left-fits : (s : List ℕ) (k : RleCursor) {r : RleStepped} → k.left < 2 ^ 64 → r ≡ step_of s k → is_reading r.answer ≡ true → r.cursor.left + 1 < 2 ^ 64
unfolding leaves said
left-fits s k f e = subst P (sym e) (by-step s k (2 ^ 64 - 1) (omega arith) (omega arith) P over on)
  where
    P : RleStepped → Type 0
    P r = is_reading r.answer ≡ true → r.cursor.left + 1 < 2 ^ 64

    over : (e : Ending) → P (told k (ends e))
    over sound h = let z : ◌≡◌ {A = ℕ} 0 1 = cc in absurd (omega arith)
    over (fault number place) h = let z : ◌≡◌ {A = ℕ} 0 1 = cc in absurd (omega arith)

    on : (r : Reading ℕ) (d : Cursor ℕ) → k.len ≡ length s → Given u64_e u64-laws s (2 ^ 64 - 1) (cursor_of k) r d → P (told k (gives r d))
    on r d w g h = omega (arith, g.1, kept-left k.len d.at d.had d.left d.sort)

-- ---- how many readings a piece has

either : (k : RleCursor) (a : RleAnswer) (P : RleTaken → Type 0) → P (taken (past k) a (suc k.left)) → P (taken k a 1) → P (standing k a)
either k a P x y = cond-by P (ltb k.sort 2) (λ e. x) (λ e. y)

took-answer : (k : RleCursor) (a : RleAnswer) → (took_of k a).piece.answer ≡ a
took-answer k (answer.Present value) = either k (answer.Present value) (λ p. p.piece.answer ≡ answer.Present value) refl refl
took-answer k answer.Absent = either k answer.Absent (λ p. p.piece.answer ≡ answer.Absent) refl refl
took-answer k answer.End = refl
took-answer k (answer.Refused number place) = refl

took-some : (k : RleCursor) (a : RleAnswer) → is_reading a ≡ true → 0 < (took_of k a).piece.times
took-some k (answer.Present value) e = either k (answer.Present value) (λ p. 0 < p.piece.times) (omega arith) (omega arith)
took-some k answer.Absent e = either k answer.Absent (λ p. 0 < p.piece.times) (omega arith) (omega arith)
took-some k answer.End e = let z : ◌≡◌ {A = ℕ} 0 1 = cc in absurd (omega arith)
took-some k (answer.Refused number place) e = let z : ◌≡◌ {A = ℕ} 0 1 = cc in absurd (omega arith)

took-none : (k : RleCursor) (a : RleAnswer) → is_reading a ≡ false → (took_of k a).piece.times ≡ 0
took-none k (answer.Present value) e = let z : ◌≡◌ {A = ℕ} 0 1 = cc in absurd (omega arith)
took-none k answer.Absent e = let z : ◌≡◌ {A = ℕ} 0 1 = cc in absurd (omega arith)
took-none k answer.End e = refl
took-none k (answer.Refused number place) e = refl

module _ (s : List ℕ) (k : RleCursor) where
  -- it begins with the step's answer, so an ending is the step's
  pub first-answer : (piece_of s k).piece.answer ≡ (step_of s k).answer
  unfolding piece_of
  first-answer = took-answer (step_of s k).cursor (step_of s k).answer

  -- where that is a reading it has one at least
  pub some-given : is_reading (step_of s k).answer ≡ true → 0 < (piece_of s k).piece.times
  unfolding piece_of
  some-given e = took-some (step_of s k).cursor (step_of s k).answer e

  -- and else none
  pub none-given : is_reading (step_of s k).answer ≡ false → (piece_of s k).piece.times ≡ 0
  unfolding piece_of
  none-given e = took-none (step_of s k).cursor (step_of s k).answer e

  all_read : (i : ℕ) → i < (piece_of s k).piece.times → is_reading (piece_of s k).piece.answer ≡ true
  all_read i l = go (is_reading (step_of s k).answer) refl
    where
      go : (b : Bool) → is_reading (step_of s k).answer ≡ b → is_reading (piece_of s k).piece.answer ≡ true
      go true e = ap is_reading first-answer ∙ e
      go false e = let z = none-given e in absurd (omega arith)

-- ---- a piece, step by step

-- what is kept inside a run, and what a piece is there
took-same : (len at had left : ℕ) (r : Reading ℕ)
    → took_of (kept_as len at had left (same r)) (answer_for (reading r)) ≡ taken (kept_as len at had 0 (same r)) (answer_for (reading r)) (suc left)
took-same len at had left absent = refl
took-same len at had left (present a q) = refl

took-literal : (len at had left : ℕ) (r : Reading ℕ)
    → took_of (kept_as len at had left literal) (answer_for (reading r)) ≡ taken (kept_as len at had left literal) (answer_for (reading r)) 1
took-literal len at had left absent = refl
took-literal len at had left (present a q) = refl

module _ (s : List ℕ) where
  abbrev call : RleCursor → RleCursor
  call k = (step_of s k).cursor

  abbrev answers : RleCursor → RleAnswer
  answers k = (step_of s k).answer

  -- so many steps from k answer the piece's reading each, and lead where it leads
  abbrev StandsAs : RleCursor → RleTaken → Type 0
  StandsAs k p = Stands call answers k p.piece.times (λ i. p.piece.answer) p.cursor

  -- inside a run
  run_step : (at had left : ℕ) (r : Reading ℕ) → at ≤ length s → 0 < left
      → step_of s (kept_as (length s) at had left (same r)) ≡ record { cursor = kept_as (length s) at had (left - 1) (same r); answer = answer_for (reading r) }
  unfolding leaves said
  run_step at had left r w l =
      let c = cursor at had left (same r) in
      kept_step_lem s c w
      ∙ ap (λ (x : Stepped (Reading ℕ) (Cursor ℕ)). record { cursor = leaves (kept (length s)) (kept (length s) c) x; answer = answer_for (said x) }) (step_same u64_e u64-laws s at had left r l)

  module _ (k : RleCursor) (w : k.len ≡ length s) (at had left : ℕ) (v : at ≤ length s) (r : Reading ℕ) where
    same-stands : step_of s k ≡ told k (gives r (cursor at had left (same r))) → StandsAs k (taken (kept_as k.len at had 0 (same r)) (answer_for (reading r)) (suc left))
    unfolding leaves said
    same-stands e =
        subst (λ (d : RleCursor). StandsAs k (taken d (answer_for (reading r)) (suc left))) last
        (taking.row call answers (suc left) states (λ i. answer_for (reading r)) leads says)
      where
        states : ℕ → RleCursor
        states zero = k
        states (suc i) = kept_as (length s) at had (left - i) (same r)

        last : states (suc left) ≡ kept_as k.len at had 0 (same r)
        last = let z : left - left ≡ 0 = omega arith in ap (λ (n : ℕ). kept_as (length s) at had n (same r)) z ∙ ap (λ (n : ℕ). kept_as n at had 0 (same r)) (sym w)

        leads : (i : ℕ) → i < suc left → call (states i) ≡ states (suc i)
        leads zero l =
            let z : left ≡ left - 0 = omega arith in
            ap (λ (x : RleStepped). x.cursor) e ∙ ap (λ (n : ℕ). kept_as n at had left (same r)) w ∙ ap (λ (n : ℕ). kept_as (length s) at had n (same r)) z
        leads (suc i) l =
            let z : left - i - 1 ≡ left - suc i = omega arith in
            ap (λ (x : RleStepped). x.cursor) (run_step at had (left - i) r v (omega arith)) ∙ ap (λ (n : ℕ). kept_as (length s) at had n (same r)) z

        says : (i : ℕ) → i < suc left → answers (states i) ≡ answer_for (reading r)
        says zero l = ap (λ (x : RleStepped). x.answer) e
        says (suc i) l = ap (λ (x : RleStepped). x.answer) (run_step at had (left - i) r v (omega arith))

  -- a literal value: one step
  single-stands : (k d : RleCursor) (a : RleAnswer) → step_of s k ≡ record { cursor = d; answer = a } → StandsAs k (taken d a 1)
  single-stands k d a e =
      taking.row call answers 1 states (λ i. a) leads says
    where
      states : ℕ → RleCursor
      states zero = k
      states (suc i) = d

      leads : (i : ℕ) → i < 1 → call (states i) ≡ states (suc i)
      leads zero l = ap (λ (x : RleStepped). x.cursor) e
      leads (suc i) l = absurd (omega arith)

      says : (i : ℕ) → i < 1 → answers (states i) ≡ a
      says zero l = ap (λ (x : RleStepped). x.answer) e
      says (suc i) l = absurd (omega arith)

  -- THE THEOREM: so many steps as a piece has times answer its reading each, and leave the state that it leaves
  pub stands : (k : RleCursor) → StandsAs k (piece_of s k)
  unfolding piece_of leaves said
  stands k = by-step s k (k.left + limit) (omega arith) (omega arith) P over on refl
    where
      P : RleStepped → Type 0
      P x = step_of s k ≡ x → StandsAs k (took_of x.cursor x.answer)

      over : (e : Ending) → P (told k (ends e))
      over sound h = taking.none-stands call answers k (λ i. answer.End)
      over (fault number place) h = taking.none-stands call answers k (λ i. answer.Refused number place)

      inside : (at had left : ℕ) (x : Sort ℕ) (r : Reading ℕ) → k.len ≡ length s → at ≤ length s → Again r x → P (told k (gives r (cursor at had left x)))
      inside at had left (same q) r w v a =
          subst (λ (q : Reading ℕ). P (told k (gives r (cursor at had left (same q))))) (sym a)
          (λ h. subst (StandsAs k) (sym (took-same k.len at had left r)) (same-stands k w at had left v r h))
      inside at had left literal r w v a =
          λ h. subst (StandsAs k) (sym (took-literal k.len at had left r)) (single-stands k (kept_as k.len at had left literal) (answer_for (reading r)) h)

      on : (r : Reading ℕ) (d : Cursor ℕ) → k.len ≡ length s → Given u64_e u64-laws s (k.left + limit) (cursor_of k) r d → P (told k (gives r d))
      on r d w g = inside d.at d.had d.left d.sort r w g.0 g.2

  -- ---- a piece takes bytes or ends a run, and an ending leaves the state

  abbrev weight_of : RleCursor → ℕ
  weight_of k = weight (length s) k.at k.left

  fallen : (len at had left w : ℕ) (x : Sort ℕ) (r : Reading ℕ) → Fallen (length s) w at left x
      → weight_of (took_of (kept_as len at had left x) (answer_for (reading r))).cursor < w
  fallen len at had left w (same absent) absent f = omega arith
  fallen len at had left w (same absent) (present a q) f = omega arith
  fallen len at had left w (same (present v p)) absent f = omega arith
  fallen len at had left w (same (present v p)) (present a q) f = omega arith
  fallen len at had left w literal absent f = f
  fallen len at had left w literal (present a q) f = f

  piece-falls : (k : RleCursor) → is_reading (answers k) ≡ true → weight_of (piece_of s k).cursor < weight_of k
  unfolding piece_of leaves said
  piece-falls k = by-step s k (k.left + limit) (omega arith) (omega arith) P over on
    where
      P : RleStepped → Type 0
      P x = is_reading x.answer ≡ true → weight_of (took_of x.cursor x.answer).cursor < weight_of k

      over : (e : Ending) → P (told k (ends e))
      over sound h = let z : ◌≡◌ {A = ℕ} 0 1 = cc in absurd (omega arith)
      over (fault number place) h = let z : ◌≡◌ {A = ℕ} 0 1 = cc in absurd (omega arith)

      on : (r : Reading ℕ) (d : Cursor ℕ) → k.len ≡ length s → Given u64_e u64-laws s (k.left + limit) (cursor_of k) r d → P (told k (gives r d))
      on r d w g h = fallen k.len d.at d.had d.left (weight_of k) d.sort r g.3

  piece-stays : (k : RleCursor) → is_reading (answers k) ≡ false → (piece_of s k).cursor ≡ k
  unfolding piece_of leaves said
  piece-stays k = by-step s k (k.left + limit) (omega arith) (omega arith) P over on
    where
      P : RleStepped → Type 0
      P x = is_reading x.answer ≡ false → (took_of x.cursor x.answer).cursor ≡ k

      over : (e : Ending) → P (told k (ends e))
      over sound h = refl
      over (fault number place) h = refl

      on : (r : Reading ℕ) (d : Cursor ℕ) → k.len ≡ length s → Given u64_e u64-laws s (k.left + limit) (cursor_of k) r d → P (told k (gives r d))
      on absent d w g h = let z : ◌≡◌ {A = ℕ} 0 1 = cc in absurd (omega arith)
      on (present a q) d w g h = let z : ◌≡◌ {A = ℕ} 0 1 = cc in absurd (omega arith)

  -- ---- pieces from a new state, one after the other

  abbrev pub past_of : RleCursor → RleCursor
  past_of k = (piece_of s k).cursor

  abbrev pub times_of : RleCursor → ℕ
  times_of k = (piece_of s k).piece.times

  -- the piece with n pieces before it, and how many readings those have
  abbrev pub piece_at : ℕ → RlePiece
  piece_at n = (piece_of s (after past_of n (new_for (length s)))).piece

  abbrev pub had_before : ℕ → ℕ
  had_before n = readings_in times_of past_of n (new_for (length s))

  reading-is : (r : Reading ℕ) → is_reading (answer_for (reading r)) ≡ true
  reading-is absent = refl
  reading-is (present a q) = refl

  ended-not : (e : Ending) → is_reading (answer_for (ended e)) ≡ false
  ended-not sound = refl
  ended-not (fault number place) = refl

  -- "the readings in order are the decoded list"; on a faulty column those before the first faulty one
  pub nth-reading : (n i : ℕ) → i < (piece_at n).times → (piece_at n).answer ≡ answer_for (nth (trace u64_e s) (had_before n + i))
  nth-reading n i l =
      taking.each-reading call answers times_of (λ k i. (piece_of s k).piece.answer) past_of stands (new_for (length s)) n i l ∙ nth-answer s (had_before n + i)

  -- as many pieces as the column has readings have them all
  pub all-given : (n : ℕ) → length (trace u64_e s).readings ≤ n → had_before n ≡ length (trace u64_e s).readings
  all-given =
      taking.all-given call answers times_of (λ k i. (piece_of s k).piece.answer) past_of stands (new_for (length s)) (trace u64_e s) answer_for (nth-answer s) is_reading
      reading-is ended-not (some-given s) (none-given s) (all_read s)

  -- and so have as many as it has bytes: no more pieces have readings, whatever the counts
  pub few-given : (n : ℕ) → length s ≤ n → had_before n ≡ length (trace u64_e s).readings
  few-given n l =
      taking.none_left call answers times_of (λ k i. (piece_of s k).piece.answer) past_of stands
      (new_for (length s)) (trace u64_e s) answer_for (nth-answer s) is_reading reading-is ended-not (some-given s) (none-given s) (all_read s)
      n (go (is_reading (answers (after past_of n (new_for (length s))))) refl)
    where
      go : (b : Bool) → is_reading (answers (after past_of n (new_for (length s)))) ≡ b → is_reading (answers (after past_of n (new_for (length s)))) ≡ false
      go false e = e
      go true e =
          let m = taking.few-pieces past_of (λ k. is_reading (answers k)) weight_of piece-stays (λ k g. let f = piece-falls k g in omega arith)
          (λ k g h. piece-falls k g) n (new_for (length s)) e in
          absurd (omega arith)

  -- "and then the end, however often asked", or "the refusal of the whole-column call, again at every later call": the piece behind the last reading
  pub then-ending : (n : ℕ) → had_before n ≡ length (trace u64_e s).readings
      → piece_at n ≡ record { answer = answer_for (ended (trace u64_e s).ending); times = 0 }
  then-ending n l =
      let k = after past_of n (new_for (length s)) in
      let h = taking.then-ending call answers times_of (λ k i. (piece_of s k).piece.answer) past_of stands (new_for (length s)) (trace u64_e s) answer_for (nth-answer s) is_reading
      reading-is ended-not (some-given s) (none-given s) (all_read s) n l in
      ap (λ (a : RleAnswer). record { answer = a; times = times_of k }) (first-answer s k ∙ h.0)
      ∙ ap (λ (m : ℕ). record { answer = answer_for (ended (trace u64_e s).ending); times = m }) h.1
