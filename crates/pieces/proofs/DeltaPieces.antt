-- THE THEOREMS of pieces for delta columns. From any state so many steps as a piece has times answer its readings, each by the difference larger than
-- the one before, and leave the state that it leaves (`stands`). So from a new state the pieces' readings in order are what the trace of the column has
-- to say (`nth-reading`): all of them (`all-given`), in no more pieces than the column has bytes (`few-given`), and the piece behind them is its ending,
-- however often asked (`then-ending`). And what the code needs of a step. Assumes nothing.
use Prim.Native.Nat.{ℕ, zero, suc, ◌+◌, ◌-◌, ◌^◌, ◌≤◌, ◌<◌}
use mathlib.Core.Path.{◌≡◌, refl, sym, ◌∙◌, ap, subst}
use mathlib.Core.Bool.{Bool, true, false, cond}
use mathlib.Core.List.{List}
use mathlib.Core.Option.{Option, none, some}
use native.Mathlib.Omega.{arith}
use lib.IntN.{ℤ, pos}
use lib.ListN.{length}
use lib.Dec.{eqb}
use borrow.Author.Tests.{eq-eqb, ne_eqb}
use Rattle.std.specs.Prelude as code
use Rattle.encoding.specs.Limit.{limit}
use Rattle.encoding.specs.Walk.{Ending, sound, fault}
use Rattle.encoding.specs.Column.{Reading, absent, present}
use Rattle.encoding.proofs.Lists.{cond-by}
use Rattle.cursor.specs.Steps.{Stepped, ends, gives, said, reading, ended, nth}
use Rattle.cursor.specs.Kept.{leaves, after}
use Rattle.cursor.specs.Cursor.{Sort, same, literal, Cursor, cursor, step}
use Rattle.cursor.specs.Taking.{Stands, readings_in}
use Rattle.cursor.proofs.Keeping.{checked-by}
use Rattle.cursor.proofs.Pieces.{weight, Fallen, Gives, Again, Given, step_same, step_given}
use Rattle.cursor.proofs.Taking as taking
use Rattle.delta_decoder.specs.Difference.{i64_e}
use Rattle.delta_decoder.specs.Sums.{held_sum, delta_trace}
use Rattle.delta_decoder.proofs.DifferenceLaws.{i64-laws}
use Rattle.delta_cursor.specs.SumCursor.{summing, summed, add_step, delta_step}
use Rattle.delta_cursor.specs.State.{cursor_of, kept_as, kept, new_for, answer_for, told, step_of}
use Rattle.delta_cursor.specs.Cases.{answer_of, stepped_of}
use Rattle.delta_cursor.specs.declared.DeltaCursor.{DeltaCursor}
use Rattle.delta_cursor.specs.declared.DeltaStepped as stepped
use Rattle.delta_cursor.specs.Answer.{DeltaAnswer, DeltaStepped}
use Rattle.delta_cursor.specs.Answer as answer
use Rattle.delta_cursor.proofs.Calls.{kept_step_lem, nth-answer}
use Rattle.pieces.specs.Cases.{delta_read}
use Rattle.pieces.specs.Delta.{DeltaPiece, DeltaTaken, plus_each, held_each, taken, past, repeating, standing, took_of, piece_of, reading_of, reading_at}
use Rattle.pieces.proofs.Repeating.{held-most, held-each, held-over}

-- a reading, and not an ending
abbrev pub is_reading : DeltaAnswer → Bool
is_reading (answer.Present value) = true
is_reading answer.Absent = true
is_reading answer.End = false
is_reading (answer.Refused number place) = false

-- a value
abbrev pub is_present : DeltaAnswer → Bool
is_present (answer.Present value) = true
is_present answer.Absent = false
is_present answer.End = false
is_present (answer.Refused number place) = false

-- ---- the code

module _ (k : DeltaCursor) (a : DeltaAnswer) where
  abbrev absents : DeltaTaken
  absents = taken (past k 0 k.sum) a (pos 0) (suc k.left)

  abbrev alone : DeltaTaken
  alone = taken k a (pos 0) 1

  pub standing-repeat : k.sort ≡ 1 → standing k a ≡ repeating k a
  standing-repeat e = ap (λ (b : Bool). cond b (repeating k a) (cond (eqb k.sort 0) absents alone)) (eq-eqb k.sort 1 e)

  not-repeat : (k.sort ≡ 1 → ⊥) → standing k a ≡ cond (eqb k.sort 0) absents alone
  not-repeat n = ap (λ (b : Bool). cond b (repeating k a) (cond (eqb k.sort 0) absents alone)) (ne_eqb k.sort 1 n)

  pub standing-absent : (n : ℕ) → (k.sort ≡ 1 → ⊥) → k.sort ≡ 0 → n ≡ suc k.left → standing k a ≡ taken (past k 0 k.sum) a (pos 0) n
  standing-absent n r e m =
      not-repeat r ∙ ap (λ (b : Bool). cond b absents alone) (eq-eqb k.sort 0 e) ∙ ap (taken (past k 0 k.sum) a (pos 0)) (sym m)

  pub standing-alone : (k.sort ≡ 1 → ⊥) → (k.sort ≡ 0 → ⊥) → standing k a ≡ alone
  standing-alone r n = not-repeat r ∙ ap (λ (b : Bool). cond b absents alone) (ne_eqb k.sort 0 n)

  -- what is counted and added up, as numbers
  pub repeating-by : (n t : ℕ) (z : ℤ) → n ≡ held_each k.sum k.difference k.left → z ≡ plus_each k.sum k.difference n → t ≡ suc n
      → repeating k a ≡ taken (past k (k.left - n) z) a k.difference t
  repeating-by n t z e f g =
      ap (λ (n : ℕ). taken (past k (k.left - n) (plus_each k.sum k.difference n)) a k.difference (suc n)) (sym e)
      ∙ ap (λ (z : ℤ). taken (past k (k.left - n) z) a k.difference (suc n)) (sym f)
      ∙ ap (taken (past k (k.left - n) z) a k.difference) (sym g)

-- a reading that the code has is one
pub read : (o : code.Option ℤ) → is_reading (answer_of (code.Ok (code.Some o))) ≡ true
read (code.Some value) = refl
read code.None = refl

pub took : (s : List ℕ) (k : DeltaCursor) {r : DeltaStepped} {a : DeltaAnswer} → r ≡ step_of s k → r.answer ≡ a → piece_of s k ≡ took_of r.cursor a
unfolding piece_of
took s k {r} e h = ap (λ (r : DeltaStepped). took_of r.cursor r.answer) (sym e) ∙ ap (took_of r.cursor) h

-- of a step in the code's types: a reading stands there, as the code's piece says
read-stands : (k : DeltaCursor) (o : code.Option ℤ) → took_of k (answer_of (code.Ok (code.Some o))) ≡ standing k (delta_read o)
read-stands k (code.Some value) = refl
read-stands k code.None = refl

pub took-read : (s : List ℕ) (k : DeltaCursor) {r : stepped.DeltaStepped} {o : code.Option ℤ} → stepped_of r ≡ step_of s k
    → r.answer ≡ code.Ok (code.Some o) → piece_of s k ≡ standing r.cursor (delta_read o)
took-read s k {r} {o} e h = took s k e (ap answer_of h) ∙ read-stands r.cursor o

-- ---- a step from any state, by what it gives

module _ (s : List ℕ) (k : DeltaCursor) (b : ℕ) (m : limit ≤ b) (l : k.left ≤ b) where
  by-step : (P : DeltaStepped → Type 0) → ((e : Ending) → P (told k (ends e)))
      → ((d : Cursor ℤ) → k.len ≡ length s → Given i64_e i64-laws s b (cursor_of k).differences absent d → P (told k (gives absent (summing d k.sum))))
      → ((x y : ℤ) (q : ℕ) (d : Cursor ℤ) → k.len ≡ length s → Given i64_e i64-laws s b (cursor_of k).differences (present x q) d
      → P (told k (gives (present y q) (summing d y))))
      → P (step_of s k)
  unfolding step_of delta_step add_step summed
  by-step P f g h =
      checked-by k.len k.at s (delta_step s (cursor_of k)) (λ x. P (told k x))
      (λ e w. go (step i64_e s (cursor_of k).differences) e (step_given i64_e i64-laws s b (cursor_of k).differences m w l)) (f (fault 24 0))
    where
      sum : (x : ℤ) (q : ℕ) (d : Cursor ℤ) (o : Option ℤ) → k.len ≡ length s → Given i64_e i64-laws s b (cursor_of k).differences (present x q) d
          → P (told k (summed q o d))
      sum x q d none w i = f (fault 6 q)
      sum x q d (some y) w i = h x y q d w i

      go : (x : Stepped (Reading ℤ) (Cursor ℤ)) → k.len ≡ length s → Gives (Given i64_e i64-laws s b (cursor_of k).differences) x
          → P (told k (add_step k.sum x))
      go (ends e) w i = f e
      go (gives absent d) w i = g d w i
      go (gives (present x q) d) w i = sum x q d (held_sum k.sum x) w i

kept-left : (len at had left : ℕ) (x : Sort ℤ) (z : ℤ) → (kept_as len at had left x z).left ≡ left
kept-left len at had left (same absent) z = refl
kept-left len at had left (same (present a q)) z = refl
kept-left len at had left literal z = refl

-- one more than are left behind a reading is a u64
pub left-fits : (s : List ℕ) (k : DeltaCursor) {r : DeltaStepped} → k.left < 2 ^ 64 → r ≡ step_of s k → is_reading r.answer ≡ true → r.cursor.left + 1 < 2 ^ 64
unfolding leaves said
left-fits s k f e = subst P (sym e) (by-step s k (2 ^ 64 - 1) (omega arith) (omega arith) P over missing on)
  where
    P : DeltaStepped → Type 0
    P r = is_reading r.answer ≡ true → r.cursor.left + 1 < 2 ^ 64

    over : (e : Ending) → P (told k (ends e))
    over sound h = let z : ◌≡◌ {A = ℕ} 0 1 = cc in absurd (omega arith)
    over (fault number place) h = let z : ◌≡◌ {A = ℕ} 0 1 = cc in absurd (omega arith)

    missing : (d : Cursor ℤ) → k.len ≡ length s → Given i64_e i64-laws s (2 ^ 64 - 1) (cursor_of k).differences absent d
        → P (told k (gives absent (summing d k.sum)))
    missing d w g h = omega (arith, g.1, kept-left k.len d.at d.had d.left d.sort k.sum)

    on : (x y : ℤ) (q : ℕ) (d : Cursor ℤ) → k.len ≡ length s → Given i64_e i64-laws s (2 ^ 64 - 1) (cursor_of k).differences (present x q) d
        → P (told k (gives (present y q) (summing d y)))
    on x y q d w g h = omega (arith, g.1, kept-left k.len d.at d.had d.left d.sort y)

-- ---- how many readings a piece has

either : (k : DeltaCursor) (a : DeltaAnswer) (P : DeltaTaken → Type 0) → P (repeating k a) → P (absents k a) → P (alone k a) → P (standing k a)
either k a P x y z = cond-by P (eqb k.sort 1) (λ e. x) (λ e. cond-by P (eqb k.sort 0) (λ f. y) (λ f. z))

took-answer : (k : DeltaCursor) (a : DeltaAnswer) → (took_of k a).piece.answer ≡ a
took-answer k (answer.Present value) = either k (answer.Present value) (λ p. p.piece.answer ≡ answer.Present value) refl refl refl
took-answer k answer.Absent = either k answer.Absent (λ p. p.piece.answer ≡ answer.Absent) refl refl refl
took-answer k answer.End = refl
took-answer k (answer.Refused number place) = refl

took-some : (k : DeltaCursor) (a : DeltaAnswer) → is_reading a ≡ true → 0 < (took_of k a).piece.times
took-some k (answer.Present value) e = either k (answer.Present value) (λ p. 0 < p.piece.times) (omega arith) (omega arith) (omega arith)
took-some k answer.Absent e = either k answer.Absent (λ p. 0 < p.piece.times) (omega arith) (omega arith) (omega arith)
took-some k answer.End e = let z : ◌≡◌ {A = ℕ} 0 1 = cc in absurd (omega arith)
took-some k (answer.Refused number place) e = let z : ◌≡◌ {A = ℕ} 0 1 = cc in absurd (omega arith)

took-none : (k : DeltaCursor) (a : DeltaAnswer) → is_reading a ≡ false → (took_of k a).piece.times ≡ 0
took-none k (answer.Present value) e = let z : ◌≡◌ {A = ℕ} 0 1 = cc in absurd (omega arith)
took-none k answer.Absent e = let z : ◌≡◌ {A = ℕ} 0 1 = cc in absurd (omega arith)
took-none k answer.End e = refl
took-none k (answer.Refused number place) e = refl

took-still : (k : DeltaCursor) (a : DeltaAnswer) → is_reading a ≡ false → (took_of k a).piece.difference ≡ pos 0
took-still k (answer.Present value) e = let z : ◌≡◌ {A = ℕ} 0 1 = cc in absurd (omega arith)
took-still k answer.Absent e = let z : ◌≡◌ {A = ℕ} 0 1 = cc in absurd (omega arith)
took-still k answer.End e = refl
took-still k (answer.Refused number place) e = refl

-- its readings are readings where the first is
alike : (a : DeltaAnswer) (d : ℤ) (i : ℕ) → is_reading (reading_of a d i) ≡ is_reading a
alike (answer.Present value) d i = refl
alike answer.Absent d i = refl
alike answer.End d i = refl
alike (answer.Refused number place) d i = refl

module _ (s : List ℕ) (k : DeltaCursor) where
  -- it begins with the step's answer, so an ending is the step's
  pub first-answer : (piece_of s k).piece.answer ≡ (step_of s k).answer
  unfolding piece_of
  first-answer = took-answer (step_of s k).cursor (step_of s k).answer

  -- where that is a reading it has one at least
  pub some-given : is_reading (step_of s k).answer ≡ true → 0 < (piece_of s k).piece.times
  unfolding piece_of
  some-given e = took-some (step_of s k).cursor (step_of s k).answer e

  -- and else none
  pub none-given : is_reading (step_of s k).answer ≡ false → (piece_of s k).piece.times ≡ 0
  unfolding piece_of
  none-given e = took-none (step_of s k).cursor (step_of s k).answer e

  still-given : is_reading (step_of s k).answer ≡ false → (piece_of s k).piece.difference ≡ pos 0
  unfolding piece_of
  still-given e = took-still (step_of s k).cursor (step_of s k).answer e

  all_read : (i : ℕ) → i < (piece_of s k).piece.times → is_reading (reading_at (piece_of s k).piece i) ≡ true
  all_read i l = go (is_reading (step_of s k).answer) refl
    where
      go : (b : Bool) → is_reading (step_of s k).answer ≡ b → is_reading (reading_at (piece_of s k).piece i) ≡ true
      go true e = alike (piece_of s k).piece.answer (piece_of s k).piece.difference i ∙ ap is_reading first-answer ∙ e
      go false e = let z = none-given e in absurd (omega arith)

-- ---- a piece, step by step

module _ (s : List ℕ) where
  abbrev call : DeltaCursor → DeltaCursor
  call k = (step_of s k).cursor

  abbrev answers : DeltaCursor → DeltaAnswer
  answers k = (step_of s k).answer

  -- so many steps from k answer the piece's readings, and lead where it leads
  abbrev StandsAs : DeltaCursor → DeltaTaken → Type 0
  StandsAs k p = Stands call answers k p.piece.times (reading_at p.piece) p.cursor

  abbrev out : DeltaCursor → DeltaAnswer → DeltaStepped
  out k a = record { cursor = k; answer = a }

  -- inside an absent run
  absent-step : (at had left : ℕ) (z : ℤ) → at ≤ length s → 0 < left
      → step_of s (kept_as (length s) at had left (same absent) z) ≡ out (kept_as (length s) at had (left - 1) (same absent) z) answer.Absent
  unfolding delta_step add_step leaves said
  absent-step at had left z w l =
      let c = summing (cursor at had left (same absent)) z in
      kept_step_lem s c w
      ∙ ap (λ (x : Stepped (Reading ℤ) (Cursor ℤ)). out (leaves (kept (length s)) (kept (length s) c) (add_step z x)) (answer_for (said (add_step z x))))
      (step_same i64_e i64-laws s at had left absent l)

  -- inside a repeated run, where the next sum is held
  repeat-step : (at had left : ℕ) (x y z : ℤ) (q : ℕ) → at ≤ length s → 0 < left → held_sum z x ≡ some y
      → step_of s (kept_as (length s) at had left (same (present x q)) z) ≡ out (kept_as (length s) at had (left - 1) (same (present x q)) y) (answer.Present y)
  unfolding delta_step add_step summed leaves said
  repeat-step at had left x y z q w l h =
      let c = summing (cursor at had left (same (present x q))) z in
      let d = cursor at had (left - 1) (same (present x q)) in
      kept_step_lem s c w
      ∙ ap (λ (x : Stepped (Reading ℤ) (Cursor ℤ)). out (leaves (kept (length s)) (kept (length s) c) (add_step z x)) (answer_for (said (add_step z x))))
      (step_same i64_e i64-laws s at had left (present x q) l)
      ∙ ap (λ (o : Option ℤ). out (leaves (kept (length s)) (kept (length s) c) (summed q o d)) (answer_for (said (summed q o d)))) h

  module _ (k : DeltaCursor) (w : k.len ≡ length s) (at had left : ℕ) (v : at ≤ length s) where
    absent-stands : (z : ℤ) → step_of s k ≡ out (kept_as k.len at had left (same absent) z) answer.Absent
        → StandsAs k (taken (kept_as k.len at had 0 (same absent) z) answer.Absent (pos 0) (suc left))
    absent-stands z e =
        subst (λ (d : DeltaCursor). StandsAs k (taken d answer.Absent (pos 0) (suc left))) last
        (taking.row call answers (suc left) states (λ i. answer.Absent) leads says)
      where
        states : ℕ → DeltaCursor
        states zero = k
        states (suc i) = kept_as (length s) at had (left - i) (same absent) z

        last : states (suc left) ≡ kept_as k.len at had 0 (same absent) z
        last =
            let n : left - left ≡ 0 = omega arith in
            ap (λ (n : ℕ). kept_as (length s) at had n (same absent) z) n ∙ ap (λ (n : ℕ). kept_as n at had 0 (same absent) z) (sym w)

        leads : (i : ℕ) → i < suc left → call (states i) ≡ states (suc i)
        leads zero l =
            let n : left ≡ left - 0 = omega arith in
            ap (λ (x : DeltaStepped). x.cursor) e ∙ ap (λ (n : ℕ). kept_as n at had left (same absent) z) w ∙ ap (λ (n : ℕ). kept_as (length s) at had n (same absent) z) n
        leads (suc i) l =
            let n : left - i - 1 ≡ left - suc i = omega arith in
            ap (λ (x : DeltaStepped). x.cursor) (absent-step at had (left - i) z v (omega arith)) ∙ ap (λ (n : ℕ). kept_as (length s) at had n (same absent) z) n

        says : (i : ℕ) → i < suc left → answers (states i) ≡ answer.Absent
        says zero l = ap (λ (x : DeltaStepped). x.answer) e
        says (suc i) l = ap (λ (x : DeltaStepped). x.answer) (absent-step at had (left - i) z v (omega arith))

    -- the readings of a repeated run, as many as are held
    repeat-stands : (x y : ℤ) (q : ℕ) → step_of s k ≡ out (kept_as k.len at had left (same (present x q)) y) (answer.Present y)
        → StandsAs k (repeating (kept_as k.len at had left (same (present x q)) y) (answer.Present y))
    unfolding plus_each
    repeat-stands x y q e =
        subst (λ (d : DeltaCursor). StandsAs k (taken d (answer.Present y) x (suc held))) last
        (taking.row call answers (suc held) states (λ i. answer.Present (plus_each y x i)) leads says)
      where
        held : ℕ
        held = held_each y x left

        states : ℕ → DeltaCursor
        states zero = k
        states (suc i) = kept_as (length s) at had (left - i) (same (present x q)) (plus_each y x i)

        last : states (suc held) ≡ kept_as k.len at had (left - held) (same (present x q)) (plus_each y x held)
        last = ap (λ (n : ℕ). kept_as n at had (left - held) (same (present x q)) (plus_each y x held)) (sym w)

        steps : (i : ℕ) → i < held → step_of s (states (suc i)) ≡ out (kept_as (length s) at had (left - i - 1) (same (present x q)) (plus_each y x (suc i))) (answer.Present (plus_each y x (suc i)))
        steps i l = repeat-step at had (left - i) x (plus_each y x (suc i)) (plus_each y x i) q v (omega (arith, held-most x left y)) (held-each x left i y l)

        leads : (i : ℕ) → i < suc held → call (states i) ≡ states (suc i)
        leads zero l =
            let n : left ≡ left - 0 = omega arith in
            ap (λ (x : DeltaStepped). x.cursor) e ∙ ap (λ (n : ℕ). kept_as n at had left (same (present x q)) y) w ∙ ap (λ (n : ℕ). kept_as (length s) at had n (same (present x q)) y) n
        leads (suc i) l =
            let n : left - i - 1 ≡ left - suc i = omega arith in
            ap (λ (x : DeltaStepped). x.cursor) (steps i (omega arith)) ∙ ap (λ (n : ℕ). kept_as (length s) at had n (same (present x q)) (plus_each y x (suc i))) n

        says : (i : ℕ) → i < suc held → answers (states i) ≡ answer.Present (plus_each y x i)
        says zero l = ap (λ (x : DeltaStepped). x.answer) e
        says (suc i) l = ap (λ (x : DeltaStepped). x.answer) (steps i (omega arith))

  -- a literal reading: one step
  single-stands : (k d : DeltaCursor) (a : DeltaAnswer) → step_of s k ≡ out d a → StandsAs k (taken d a (pos 0) 1)
  unfolding plus_each
  single-stands k d a e =
      taking.row call answers 1 states (reading_of a (pos 0)) leads (says a e)
    where
      states : ℕ → DeltaCursor
      states zero = k
      states (suc i) = d

      leads : (i : ℕ) → i < 1 → call (states i) ≡ states (suc i)
      leads zero l = ap (λ (x : DeltaStepped). x.cursor) e
      leads (suc i) l = absurd (omega arith)

      first : (a : DeltaAnswer) → reading_of a (pos 0) 0 ≡ a
      first (answer.Present value) = refl
      first answer.Absent = refl
      first answer.End = refl
      first (answer.Refused number place) = refl

      says : (a : DeltaAnswer) → step_of s k ≡ out d a → (i : ℕ) → i < 1 → answers (states i) ≡ reading_of a (pos 0) i
      says a e zero l = ap (λ (x : DeltaStepped). x.answer) e ∙ sym (first a)
      says a e (suc i) l = absurd (omega arith)

  -- THE THEOREM: so many steps as a piece has times answer its readings, and leave the state that it leaves
  pub stands : (k : DeltaCursor) → StandsAs k (piece_of s k)
  unfolding piece_of leaves said
  stands k = by-step s k (k.left + limit) (omega arith) (omega arith) P over missing on refl
    where
      P : DeltaStepped → Type 0
      P x = step_of s k ≡ x → StandsAs k (took_of x.cursor x.answer)

      over : (e : Ending) → P (told k (ends e))
      over sound h = taking.none-stands call answers k (reading_of answer.End (pos 0))
      over (fault number place) h = taking.none-stands call answers k (reading_of (answer.Refused number place) (pos 0))

      none_in : (at had left : ℕ) (x : Sort ℤ) → k.len ≡ length s → at ≤ length s → Again absent x → P (told k (gives absent (summing (cursor at had left x) k.sum)))
      none_in at had left (same r) w v a =
          subst (λ (r : Reading ℤ). P (told k (gives absent (summing (cursor at had left (same r)) k.sum)))) (sym a) (λ h. absent-stands k w at had left v k.sum h)
      none_in at had left literal w v a = λ h. single-stands k (kept_as k.len at had left literal k.sum) answer.Absent h

      missing : (d : Cursor ℤ) → k.len ≡ length s → Given i64_e i64-laws s (k.left + limit) (cursor_of k).differences absent d
          → P (told k (gives absent (summing d k.sum)))
      missing d w g = none_in d.at d.had d.left d.sort w g.0 g.2

      inside : (at had left : ℕ) (t : Sort ℤ) (x y : ℤ) (q : ℕ) → k.len ≡ length s → at ≤ length s → Again (present x q) t
          → P (told k (gives (present y q) (summing (cursor at had left t) y)))
      inside at had left (same r) x y q w v a =
          subst (λ (r : Reading ℤ). P (told k (gives (present y q) (summing (cursor at had left (same r)) y)))) (sym a) (λ h. repeat-stands k w at had left v x y q h)
      inside at had left literal x y q w v a = λ h. single-stands k (kept_as k.len at had left literal y) (answer.Present y) h

      on : (x y : ℤ) (q : ℕ) (d : Cursor ℤ) → k.len ≡ length s → Given i64_e i64-laws s (k.left + limit) (cursor_of k).differences (present x q) d
          → P (told k (gives (present y q) (summing d y)))
      on x y q d w g = inside d.at d.had d.left d.sort x y q w g.0 g.2

  -- ---- a piece takes bytes, ends a run, or is the last before 6; and an ending leaves the state

  abbrev weight_of : DeltaCursor → ℕ
  weight_of k = weight (length s) k.at k.left

  -- inside a repeated run, where the next sum is not held
  repeat-over : (at had left : ℕ) (x z : ℤ) (q : ℕ) → at ≤ length s → 0 < left → held_sum z x ≡ none
      → is_reading (answers (kept_as (length s) at had left (same (present x q)) z)) ≡ false
  unfolding delta_step add_step summed leaves said
  repeat-over at had left x z q w l h =
      let c = summing (cursor at had left (same (present x q))) z in
      let d = cursor at had (left - 1) (same (present x q)) in
      ap (λ (r : DeltaStepped). is_reading r.answer) (kept_step_lem s c w)
      ∙ ap (λ (x : Stepped (Reading ℤ) (Cursor ℤ)). is_reading (answer_for (said (add_step z x)))) (step_same i64_e i64-laws s at had left (present x q) l)
      ∙ ap (λ (o : Option ℤ). is_reading (answer_for (said (summed q o d)))) h

  -- what a piece leaves of a run that is not repeated
  fallen-absent : (len at had left w : ℕ) (x : Sort ℤ) (z : ℤ) → Again absent x → Fallen (length s) w at left x
      → weight_of (took_of (kept_as len at had left x z) answer.Absent).cursor < w
  fallen-absent len at had left w (same absent) z a f = omega arith
  fallen-absent len at had left w (same (present v p)) z a f = let y : ◌≡◌ {A = ℕ} 0 1 = cc in absurd (omega arith)
  fallen-absent len at had left w literal z a f = f

  module _ (at had left : ℕ) (v : at ≤ length s) (x y : ℤ) (q w : ℕ) (f : length s - at < w) where
    -- of one that is: nothing, or what 6 stands before
    fallen-repeat : is_reading (answers (repeating (kept_as (length s) at had left (same (present x q)) y) (answer.Present y)).cursor) ≡ true
        → weight (length s) at (left - held_each y x left) < w
    fallen-repeat g = go (left - held_each y x left) refl
      where
        go : (n : ℕ) → left - held_each y x left ≡ n → weight (length s) at n < w
        go zero e = omega arith
        go (suc n) e =
            let z = repeat-over at had (left - held_each y x left) x (plus_each y x (held_each y x left)) q v (omega arith) (held-over x left y (omega arith)) in
            let y : true ≡ false = sym g ∙ z in
            let u : ◌≡◌ {A = ℕ} 0 1 = cc in
            absurd (omega arith)

  piece-falls : (k : DeltaCursor) → is_reading (answers k) ≡ true → is_reading (answers (piece_of s k).cursor) ≡ true
      → weight_of (piece_of s k).cursor < weight_of k
  unfolding piece_of leaves said
  piece-falls k = by-step s k (k.left + limit) (omega arith) (omega arith) P over missing on
    where
      P : DeltaStepped → Type 0
      P x =
          is_reading x.answer ≡ true → is_reading (answers (took_of x.cursor x.answer).cursor) ≡ true
          → weight_of (took_of x.cursor x.answer).cursor < weight_of k

      over : (e : Ending) → P (told k (ends e))
      over sound h g = let z : ◌≡◌ {A = ℕ} 0 1 = cc in absurd (omega arith)
      over (fault number place) h g = let z : ◌≡◌ {A = ℕ} 0 1 = cc in absurd (omega arith)

      missing : (d : Cursor ℤ) → k.len ≡ length s → Given i64_e i64-laws s (k.left + limit) (cursor_of k).differences absent d
          → P (told k (gives absent (summing d k.sum)))
      missing d w i h g = fallen-absent k.len d.at d.had d.left (weight_of k) d.sort k.sum i.2 i.3

      inside : (at had left : ℕ) (t : Sort ℤ) (x y : ℤ) (q : ℕ) → k.len ≡ length s → at ≤ length s → Again (present x q) t
          → Fallen (length s) (weight_of k) at left t → P (told k (gives (present y q) (summing (cursor at had left t) y)))
      inside at had left (same r) x y q w v a f =
          subst (λ (r : Reading ℤ). P (told k (gives (present y q) (summing (cursor at had left (same r)) y)))) (sym a)
          (λ h g. fallen-repeat at had left v x y q (weight_of k) f
          (subst (λ (n : ℕ). is_reading (answers (repeating (kept_as n at had left (same (present x q)) y) (answer.Present y)).cursor) ≡ true) w g))
      inside at had left literal x y q w v a f = λ h g. f

      on : (x y : ℤ) (q : ℕ) (d : Cursor ℤ) → k.len ≡ length s → Given i64_e i64-laws s (k.left + limit) (cursor_of k).differences (present x q) d
          → P (told k (gives (present y q) (summing d y)))
      on x y q d w i = inside d.at d.had d.left d.sort x y q w i.0 i.2 i.3

  -- where a step gives there is something to take
  some-weight : (k : DeltaCursor) → is_reading (answers k) ≡ true → 0 < weight_of k
  unfolding leaves said
  some-weight k =
      by-step s k (k.left + limit) (omega arith) (omega arith) P over (λ d w i h. least d.at d.left d.sort i.3)
      (λ x y q d w i h. least d.at d.left d.sort i.3)
    where
      P : DeltaStepped → Type 0
      P x = is_reading x.answer ≡ true → 0 < weight_of k

      over : (e : Ending) → P (told k (ends e))
      over sound h = let z : ◌≡◌ {A = ℕ} 0 1 = cc in absurd (omega arith)
      over (fault number place) h = let z : ◌≡◌ {A = ℕ} 0 1 = cc in absurd (omega arith)

      least : (at left : ℕ) (x : Sort ℤ) → Fallen (length s) (weight_of k) at left x → 0 < weight_of k
      least at left (same r) f = omega arith
      least at left literal f = omega arith

  module _ (k : DeltaCursor) where
    piece-stays : is_reading (answers k) ≡ false → (piece_of s k).cursor ≡ k
    unfolding piece_of leaves said
    piece-stays = by-step s k (k.left + limit) (omega arith) (omega arith) P over (λ d w i h. no h) (λ x y q d w i h. no h)
      where
        P : DeltaStepped → Type 0
        P x = is_reading x.answer ≡ false → (took_of x.cursor x.answer).cursor ≡ k

        no : {X : Type 0} → true ≡ false → X
        no h = let z : ◌≡◌ {A = ℕ} 0 1 = cc in absurd (omega arith)

        over : (e : Ending) → P (told k (ends e))
        over sound h = refl
        over (fault number place) h = refl

    -- where a piece has no values its difference is 0
    pub still-unless : is_present (piece_of s k).piece.answer ≡ false → (piece_of s k).piece.difference ≡ pos 0
    unfolding piece_of leaves said
    still-unless = by-step s k (k.left + limit) (omega arith) (omega arith) P over missing on
      where
        P : DeltaStepped → Type 0
        P x = is_present (took_of x.cursor x.answer).piece.answer ≡ false → (took_of x.cursor x.answer).piece.difference ≡ pos 0

        over : (e : Ending) → P (told k (ends e))
        over sound h = refl
        over (fault number place) h = refl

        still : (len at had left : ℕ) (x : Sort ℤ) (z : ℤ) → Again absent x → (took_of (kept_as len at had left x z) answer.Absent).piece.difference ≡ pos 0
        still len at had left (same absent) z a = refl
        still len at had left (same (present v p)) z a = let y : ◌≡◌ {A = ℕ} 0 1 = cc in absurd (omega arith)
        still len at had left literal z a = refl

        missing : (d : Cursor ℤ) → k.len ≡ length s → Given i64_e i64-laws s (k.left + limit) (cursor_of k).differences absent d
            → P (told k (gives absent (summing d k.sum)))
        missing d w i h = still k.len d.at d.had d.left d.sort k.sum i.2

        on : (x y : ℤ) (q : ℕ) (d : Cursor ℤ) → k.len ≡ length s → Given i64_e i64-laws s (k.left + limit) (cursor_of k).differences (present x q) d
            → P (told k (gives (present y q) (summing d y)))
        on x y q d w i h =
            let e : true ≡ false = sym (ap is_present (took-answer (kept k.len (summing d y)) (answer.Present y))) ∙ h in
            let z : ◌≡◌ {A = ℕ} 0 1 = cc in
            absurd (omega arith)

  -- ---- pieces from a new state, one after the other

  abbrev pub past_of : DeltaCursor → DeltaCursor
  past_of k = (piece_of s k).cursor

  abbrev pub times_of : DeltaCursor → ℕ
  times_of k = (piece_of s k).piece.times

  -- the piece with n pieces before it, and how many readings those have
  abbrev pub piece_at : ℕ → DeltaPiece
  piece_at n = (piece_of s (after past_of n (new_for (length s)))).piece

  abbrev pub had_before : ℕ → ℕ
  had_before n = readings_in times_of past_of n (new_for (length s))

  reading-is : (r : Reading ℤ) → is_reading (answer_for (reading r)) ≡ true
  reading-is absent = refl
  reading-is (present a q) = refl

  ended-not : (e : Ending) → is_reading (answer_for (ended e)) ≡ false
  ended-not sound = refl
  ended-not (fault number place) = refl

  -- "the readings in order are the decoded list"; on a faulty column those before the first faulty one
  pub nth-reading : (n i : ℕ) → i < (piece_at n).times → reading_at (piece_at n) i ≡ answer_for (nth (delta_trace s) (had_before n + i))
  nth-reading n i l =
      taking.each-reading call answers times_of (λ k. reading_at (piece_of s k).piece) past_of stands (new_for (length s)) n i l ∙ nth-answer s (had_before n + i)

  -- as many pieces as the column has readings have them all
  pub all-given : (n : ℕ) → length (delta_trace s).readings ≤ n → had_before n ≡ length (delta_trace s).readings
  all-given =
      taking.all-given call answers times_of (λ k. reading_at (piece_of s k).piece) past_of stands (new_for (length s)) (delta_trace s) answer_for (nth-answer s) is_reading
      reading-is ended-not (some-given s) (none-given s) (all_read s)

  -- and so have as many as it has bytes: no more pieces have readings, whatever the counts
  pub few-given : (n : ℕ) → length s ≤ n → had_before n ≡ length (delta_trace s).readings
  few-given n l =
      taking.none_left call answers times_of (λ k. reading_at (piece_of s k).piece) past_of stands
      (new_for (length s)) (delta_trace s) answer_for (nth-answer s) is_reading reading-is ended-not (some-given s) (none-given s) (all_read s)
      n (go (is_reading (answers (after past_of n (new_for (length s))))) refl)
    where
      go : (b : Bool) → is_reading (answers (after past_of n (new_for (length s)))) ≡ b → is_reading (answers (after past_of n (new_for (length s)))) ≡ false
      go false e = e
      go true e =
          let m = taking.few-pieces past_of (λ k. is_reading (answers k)) weight_of piece-stays some-weight piece-falls n (new_for (length s)) e in
          absurd (omega arith)

  -- "and then the end, however often asked", or "the refusal of the whole-column call, again at every later call": the piece behind the last reading
  pub then-ending : (n : ℕ) → had_before n ≡ length (delta_trace s).readings
      → piece_at n ≡ record { answer = answer_for (ended (delta_trace s).ending); difference = pos 0; times = 0 }
  then-ending n l =
      let k = after past_of n (new_for (length s)) in
      let h = taking.then-ending call answers times_of (λ k. reading_at (piece_of s k).piece) past_of stands (new_for (length s)) (delta_trace s) answer_for (nth-answer s) is_reading
      reading-is ended-not (some-given s) (none-given s) (all_read s) n l in
      ap (λ (a : DeltaAnswer). record { answer = a; difference = (piece_of s k).piece.difference; times = times_of k }) (first-answer s k ∙ h.0)
      ∙ ap (λ (z : ℤ). record { answer = answer_for (ended (delta_trace s).ending); difference = z; times = times_of k })
      (still-given s k (ap is_reading h.0 ∙ ended-not (delta_trace s).ending))
      ∙ ap (λ (m : ℕ). record { answer = answer_for (ended (delta_trace s).ending); difference = pos 0; times = m }) h.1
