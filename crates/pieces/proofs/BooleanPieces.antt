-- THE THEOREMS of pieces for boolean columns. From any state so many steps as a piece has times answer its reading each, and leave the state that it
-- leaves (`stands`). So from a new state the pieces' readings in order are what the trace of the column has to say (`nth-reading`): all of them
-- (`all-given`), in no more pieces than the column has bytes (`few-given`), and the piece behind them is its ending, however often asked
-- (`then-ending`). And what the code needs of a step. Assumes nothing.
use Prim.Native.Nat.{ℕ, zero, suc, ◌+◌, ◌-◌, ◌^◌, ◌≤◌, ◌<◌}
use mathlib.Core.Path.{◌≡◌, refl, sym, ◌∙◌, ap, subst}
use mathlib.Core.Bool.{Bool, true, false}
use mathlib.Core.List.{List}
use native.Mathlib.Omega.{arith}
use lib.ListN.{length}
use Rattle.encoding.specs.Limit.{limit}
use Rattle.encoding.specs.Walk.{Ending, sound, fault}
use Rattle.cursor.specs.Steps.{Stepped, ends, gives, said, ended, nth}
use Rattle.cursor.specs.Kept.{leaves, after}
use Rattle.cursor.specs.Taking.{Stands, readings_in}
use Rattle.cursor.proofs.Keeping.{checked-by}
use Rattle.cursor.proofs.Pieces.{weight, Gives}
use Rattle.cursor.proofs.Taking as taking
use Rattle.boolean_decoder.specs.Turns.{bool_trace}
use Rattle.boolean_cursor.specs.TurnCursor.{TurnCursor, turning, byte_of, turn_step}
use Rattle.boolean_cursor.specs.State.{cursor_of, kept, new_for, BooleanAnswer, Told, answer_for, told, step_of}
use Rattle.boolean_cursor.specs.State as answer
use Rattle.boolean_cursor.specs.declared.BooleanCursor.{BooleanCursor}
use Rattle.boolean_cursor.proofs.TurnCursors.{turn-same, TurnGiven, turn-given}
use Rattle.boolean_cursor.proofs.Calls.{step_kept, nth-answer}
use Rattle.pieces.specs.Boolean.{BooleanPiece, BooleanTaken, taken, past, took_of, piece_of}

-- a reading, and not an ending
abbrev pub is_reading : BooleanAnswer → Bool
is_reading (answer.Present flag) = true
is_reading answer.End = false
is_reading (answer.Refused number place) = false

-- ---- the code

pub took : (s : List ℕ) (k : BooleanCursor) {r : Told} {a : BooleanAnswer} → r ≡ step_of s k → r.answer ≡ a → piece_of s k ≡ took_of r.cursor a
unfolding piece_of
took s k {r} e h = ap (λ (r : Told). took_of r.cursor r.answer) (sym e) ∙ ap (took_of r.cursor) h

pub took-counted : (s : List ℕ) (k : BooleanCursor) {r : Told} {flag n : ℕ} → r ≡ step_of s k → r.answer ≡ answer.Present flag → n ≡ suc r.cursor.left
    → piece_of s k ≡ taken (past r.cursor) (answer.Present flag) n
took-counted s k {r} {flag} e h m = took s k e h ∙ ap (taken (past r.cursor) (answer.Present flag)) (sym m)

-- ---- a step from any state, by what it gives

module _ (s : List ℕ) (k : BooleanCursor) (b : ℕ) (m : limit ≤ b) (l : k.left ≤ b) where
  by-step : (P : Told → Type 0) → ((e : Ending) → P (told k (ends e)))
      → ((r : ℕ) (d : TurnCursor) → k.len ≡ length s → TurnGiven s b (cursor_of k) r d → P (told k (gives r d))) → P (step_of s k)
  unfolding step_of
  by-step P f g =
      checked-by k.len k.at s (turn_step s (cursor_of k)) (λ x. P (told k x))
      (λ e w. go (turn_step s (cursor_of k)) e (turn-given s b (cursor_of k) m w l)) (f (fault 24 0))
    where
      go : (x : Stepped ℕ TurnCursor) → k.len ≡ length s → Gives (TurnGiven s b (cursor_of k)) x → P (told k x)
      go (ends e) w h = f e
      go (gives r d) w h = g r d w h

-- one more than are left behind a reading is a u64
pub left-fits : (s : List ℕ) (k : BooleanCursor) {r : Told} → k.left < 2 ^ 64 → r ≡ step_of s k → is_reading r.answer ≡ true → r.cursor.left + 1 < 2 ^ 64
unfolding leaves said
left-fits s k f e = subst P (sym e) (by-step s k (2 ^ 64 - 1) (omega arith) (omega arith) P over on)
  where
    P : Told → Type 0
    P r = is_reading r.answer ≡ true → r.cursor.left + 1 < 2 ^ 64

    over : (e : Ending) → P (told k (ends e))
    over sound h = let z : ◌≡◌ {A = ℕ} 0 1 = cc in absurd (omega arith)
    over (fault number place) h = let z : ◌≡◌ {A = ℕ} 0 1 = cc in absurd (omega arith)

    on : (r : ℕ) (d : TurnCursor) → k.len ≡ length s → TurnGiven s (2 ^ 64 - 1) (cursor_of k) r d → P (told k (gives r d))
    on r d w g h = omega (arith, g.1)

-- ---- how many readings a piece has

took-answer : (k : BooleanCursor) (a : BooleanAnswer) → (took_of k a).piece.answer ≡ a
took-answer k (answer.Present flag) = refl
took-answer k answer.End = refl
took-answer k (answer.Refused number place) = refl

took-some : (k : BooleanCursor) (a : BooleanAnswer) → is_reading a ≡ true → 0 < (took_of k a).piece.times
took-some k (answer.Present flag) e = omega arith
took-some k answer.End e = let z : ◌≡◌ {A = ℕ} 0 1 = cc in absurd (omega arith)
took-some k (answer.Refused number place) e = let z : ◌≡◌ {A = ℕ} 0 1 = cc in absurd (omega arith)

took-none : (k : BooleanCursor) (a : BooleanAnswer) → is_reading a ≡ false → (took_of k a).piece.times ≡ 0
took-none k (answer.Present flag) e = let z : ◌≡◌ {A = ℕ} 0 1 = cc in absurd (omega arith)
took-none k answer.End e = refl
took-none k (answer.Refused number place) e = refl

module _ (s : List ℕ) (k : BooleanCursor) where
  -- it begins with the step's answer, so an ending is the step's
  pub first-answer : (piece_of s k).piece.answer ≡ (step_of s k).answer
  unfolding piece_of
  first-answer = took-answer (step_of s k).cursor (step_of s k).answer

  -- where that is a reading it has one at least
  pub some-given : is_reading (step_of s k).answer ≡ true → 0 < (piece_of s k).piece.times
  unfolding piece_of
  some-given e = took-some (step_of s k).cursor (step_of s k).answer e

  -- and else none
  pub none-given : is_reading (step_of s k).answer ≡ false → (piece_of s k).piece.times ≡ 0
  unfolding piece_of
  none-given e = took-none (step_of s k).cursor (step_of s k).answer e

  all_read : (i : ℕ) → i < (piece_of s k).piece.times → is_reading (piece_of s k).piece.answer ≡ true
  all_read i l = go (is_reading (step_of s k).answer) refl
    where
      go : (b : Bool) → is_reading (step_of s k).answer ≡ b → is_reading (piece_of s k).piece.answer ≡ true
      go true e = ap is_reading first-answer ∙ e
      go false e = let z = none-given e in absurd (omega arith)

-- ---- a piece, step by step

module _ (s : List ℕ) where
  abbrev call : BooleanCursor → BooleanCursor
  call k = (step_of s k).cursor

  abbrev answers : BooleanCursor → BooleanAnswer
  answers k = (step_of s k).answer

  -- so many steps from k answer the piece's reading each, and lead where it leads
  abbrev StandsAs : BooleanCursor → BooleanTaken → Type 0
  StandsAs k p = Stands call answers k p.piece.times (λ i. p.piece.answer) p.cursor

  -- inside a count
  run_step : (at had left flag : ℕ) → at ≤ length s → 0 < left
      → step_of s (kept (length s) (turning at had left flag)) ≡ record { cursor = kept (length s) (turning at had (left - 1) flag); answer = answer.Present (byte_of flag) }
  unfolding leaves said
  run_step at had left flag w l =
      let c = turning at had left flag in
      step_kept s c w ∙ ap (told (kept (length s) c)) (turn-same s at had left flag l)

  module _ (k : BooleanCursor) (w : k.len ≡ length s) (at had left flag : ℕ) (v : at ≤ length s) where
    same-stands : step_of s k ≡ told k (gives (byte_of flag) (turning at had left flag)) → StandsAs k (taken (kept k.len (turning at had 0 flag)) (answer.Present (byte_of flag)) (suc left))
    unfolding leaves said
    same-stands e =
        subst (λ (d : BooleanCursor). StandsAs k (taken d (answer.Present (byte_of flag)) (suc left))) last
        (taking.row call answers (suc left) states (λ i. answer.Present (byte_of flag)) leads says)
      where
        states : ℕ → BooleanCursor
        states zero = k
        states (suc i) = kept (length s) (turning at had (left - i) flag)

        last : states (suc left) ≡ kept k.len (turning at had 0 flag)
        last =
            let z : left - left ≡ 0 = omega arith in
            ap (λ (n : ℕ). kept (length s) (turning at had n flag)) z ∙ ap (λ (n : ℕ). kept n (turning at had 0 flag)) (sym w)

        leads : (i : ℕ) → i < suc left → call (states i) ≡ states (suc i)
        leads zero l =
            let z : left ≡ left - 0 = omega arith in
            ap (λ (x : Told). x.cursor) e ∙ ap (λ (n : ℕ). kept n (turning at had left flag)) w ∙ ap (λ (n : ℕ). kept (length s) (turning at had n flag)) z
        leads (suc i) l =
            let z : left - i - 1 ≡ left - suc i = omega arith in
            ap (λ (x : Told). x.cursor) (run_step at had (left - i) flag v (omega arith)) ∙ ap (λ (n : ℕ). kept (length s) (turning at had n flag)) z

        says : (i : ℕ) → i < suc left → answers (states i) ≡ answer.Present (byte_of flag)
        says zero l = ap (λ (x : Told). x.answer) e
        says (suc i) l = ap (λ (x : Told). x.answer) (run_step at had (left - i) flag v (omega arith))

  -- THE THEOREM: so many steps as a piece has times answer its reading each, and leave the state that it leaves
  pub stands : (k : BooleanCursor) → StandsAs k (piece_of s k)
  unfolding piece_of leaves said
  stands k = by-step s k (k.left + limit) (omega arith) (omega arith) P over on refl
    where
      P : Told → Type 0
      P x = step_of s k ≡ x → StandsAs k (took_of x.cursor x.answer)

      over : (e : Ending) → P (told k (ends e))
      over sound h = taking.none-stands call answers k (λ i. answer.End)
      over (fault number place) h = taking.none-stands call answers k (λ i. answer.Refused number place)

      on : (r : ℕ) (d : TurnCursor) → k.len ≡ length s → TurnGiven s (k.left + limit) (cursor_of k) r d → P (told k (gives r d))
      on r d w g =
          subst (λ (r : ℕ). P (told k (gives r d))) g.2 (λ h. same-stands k w d.at d.had d.left d.flag g.0 h)

  -- ---- a piece takes bytes or ends a count, and an ending leaves the state

  abbrev weight_of : BooleanCursor → ℕ
  weight_of k = weight (length s) k.at k.left

  piece-falls : (k : BooleanCursor) → is_reading (answers k) ≡ true → weight_of (piece_of s k).cursor < weight_of k
  unfolding piece_of leaves said
  piece-falls k = by-step s k (k.left + limit) (omega arith) (omega arith) P over on
    where
      P : Told → Type 0
      P x = is_reading x.answer ≡ true → weight_of (took_of x.cursor x.answer).cursor < weight_of k

      over : (e : Ending) → P (told k (ends e))
      over sound h = let z : ◌≡◌ {A = ℕ} 0 1 = cc in absurd (omega arith)
      over (fault number place) h = let z : ◌≡◌ {A = ℕ} 0 1 = cc in absurd (omega arith)

      on : (r : ℕ) (d : TurnCursor) → k.len ≡ length s → TurnGiven s (k.left + limit) (cursor_of k) r d → P (told k (gives r d))
      on r d w g h = omega (arith, g.3)

  piece-stays : (k : BooleanCursor) → is_reading (answers k) ≡ false → (piece_of s k).cursor ≡ k
  unfolding piece_of leaves said
  piece-stays k = by-step s k (k.left + limit) (omega arith) (omega arith) P over on
    where
      P : Told → Type 0
      P x = is_reading x.answer ≡ false → (took_of x.cursor x.answer).cursor ≡ k

      over : (e : Ending) → P (told k (ends e))
      over sound h = refl
      over (fault number place) h = refl

      on : (r : ℕ) (d : TurnCursor) → k.len ≡ length s → TurnGiven s (k.left + limit) (cursor_of k) r d → P (told k (gives r d))
      on r d w g h = let z : ◌≡◌ {A = ℕ} 0 1 = cc in absurd (omega arith)

  -- ---- pieces from a new state, one after the other

  abbrev pub past_of : BooleanCursor → BooleanCursor
  past_of k = (piece_of s k).cursor

  abbrev pub times_of : BooleanCursor → ℕ
  times_of k = (piece_of s k).piece.times

  -- the piece with n pieces before it, and how many readings those have
  abbrev pub piece_at : ℕ → BooleanPiece
  piece_at n = (piece_of s (after past_of n (new_for (length s)))).piece

  abbrev pub had_before : ℕ → ℕ
  had_before n = readings_in times_of past_of n (new_for (length s))

  ended-not : (e : Ending) → is_reading (answer_for (ended e)) ≡ false
  ended-not sound = refl
  ended-not (fault number place) = refl

  -- "the readings in order are the decoded list"; on a faulty column those before the first faulty one
  pub nth-reading : (n i : ℕ) → i < (piece_at n).times → (piece_at n).answer ≡ answer_for (nth (bool_trace s) (had_before n + i))
  nth-reading n i l =
      taking.each-reading call answers times_of (λ k i. (piece_of s k).piece.answer) past_of stands (new_for (length s)) n i l ∙ nth-answer s (had_before n + i)

  -- as many pieces as the column has readings have them all
  pub all-given : (n : ℕ) → length (bool_trace s).readings ≤ n → had_before n ≡ length (bool_trace s).readings
  all-given =
      taking.all-given call answers times_of (λ k i. (piece_of s k).piece.answer) past_of stands (new_for (length s)) (bool_trace s) answer_for (nth-answer s) is_reading
      (λ r. refl) ended-not (some-given s) (none-given s) (all_read s)

  -- and so have as many as it has bytes: no more pieces have readings, whatever the counts
  pub few-given : (n : ℕ) → length s ≤ n → had_before n ≡ length (bool_trace s).readings
  few-given n l =
      taking.none_left call answers times_of (λ k i. (piece_of s k).piece.answer) past_of stands
      (new_for (length s)) (bool_trace s) answer_for (nth-answer s) is_reading (λ r. refl) ended-not (some-given s) (none-given s) (all_read s)
      n (go (is_reading (answers (after past_of n (new_for (length s))))) refl)
    where
      go : (b : Bool) → is_reading (answers (after past_of n (new_for (length s)))) ≡ b → is_reading (answers (after past_of n (new_for (length s)))) ≡ false
      go false e = e
      go true e =
          let m = taking.few-pieces past_of (λ k. is_reading (answers k)) weight_of piece-stays (λ k g. let f = piece-falls k g in omega arith)
          (λ k g h. piece-falls k g) n (new_for (length s)) e in
          absurd (omega arith)

  -- "and then the end, however often asked", or "the refusal of the whole-column call, again at every later call": the piece behind the last reading
  pub then-ending : (n : ℕ) → had_before n ≡ length (bool_trace s).readings → piece_at n ≡ record { answer = answer_for (ended (bool_trace s).ending); times = 0 }
  then-ending n l =
      let k = after past_of n (new_for (length s)) in
      let h = taking.then-ending call answers times_of (λ k i. (piece_of s k).piece.answer) past_of stands (new_for (length s)) (bool_trace s) answer_for (nth-answer s) is_reading
      (λ r. refl) ended-not (some-given s) (none-given s) (all_read s) n l in
      ap (λ (a : BooleanAnswer). record { answer = a; times = times_of k }) (first-answer s k ∙ h.0)
      ∙ ap (λ (m : ℕ). record { answer = answer_for (ended (bool_trace s).ending); times = m }) h.1
