-- THE THEOREMS of [5] for columns of u64. From a new state the n-th answer, by the contract of `next` over and over, is what the trace of the
-- column has to say (`nth-answer`): its readings in order, then the end, however often asked, or the refusal of the whole-column call, again at
-- every later call. And from any state two columns of one length that agree from its position on give the same step (`agrees`). Assumes nothing.
use Prim.Native.Nat.{ℕ, ◌≤◌, ◌<◌}
use mathlib.Core.Path.{◌≡◌, refl, ◌∙◌, ap}
use mathlib.Core.List.{List}
use native.Mathlib.Omega.{arith}
use lib.ListN.{length, get_or}
use Rattle.leb128.specs.Answer.{done, refused}
use Rattle.encoding.specs.Walk.{outcome}
use Rattle.encoding.specs.Column.{absent, present, trace}
use Rattle.cursor.specs.Steps.{said, reading, nth}
use Rattle.cursor.specs.Kept.{sort_of, leaves, after}
use Rattle.cursor.specs.Cursor.{Sort, same, literal, Cursor, cursor, fresh, step}
use Rattle.cursor.proofs.Stepping.{holds_by}
use Rattle.cursor.proofs.Cursors.{says-trace}
use Rattle.cursor.proofs.Advances.{step-within}
use Rattle.cursor.proofs.Keeping.{checked-passes, answers}
use Rattle.cursor.proofs.Saying.{in_order, then-end, then-refused}
use Rattle.cursor.proofs.Agreeing.{Agree, u64-reads, step-agrees, checked-agrees}
use Rattle.rle_decoder.specs.Word.{u64_e}
use Rattle.rle_decoder.proofs.WordLaws.{u64-laws}
use Rattle.rle_cursor.specs.State.{cursor_of, bare_at, kept_as, kept, new_for, answer_for, told, step_of}
use Rattle.rle_cursor.specs.declared.RleCursor.{RleCursor}
use Rattle.rle_cursor.specs.Answer.{RleAnswer, RleStepped}
use Rattle.rle_cursor.specs.Answer as answer

module _ (s : List ℕ) where
  -- a state that keeps a cursor within the column passes the check, and its step is the cursor's
  abbrev pub kept_step : Cursor ℕ → RleStepped
  kept_step c = record { cursor = leaves (kept (length s)) (kept (length s) c) (step u64_e s c); answer = answer_for (said (step u64_e s c)) }

  kept_by : (at had left : ℕ) (x : Sort ℕ) → at ≤ length s → step_of s (kept (length s) (cursor at had left x)) ≡ kept_step (cursor at had left x)
  unfolding step_of sort_of
  kept_by at had left (same absent) l = ap (told (bare_at (length s) at had left 0)) (checked-passes (length s) at s _ refl l)
  kept_by at had left (same (present a q)) l = ap (told (kept_as (length s) at had left (same (present a q)))) (checked-passes (length s) at s _ refl l)
  kept_by at had left literal l = ap (told (bare_at (length s) at had left 2)) (checked-passes (length s) at s _ refl l)

  pub kept_step_lem : (c : Cursor ℕ) → c.at ≤ length s → step_of s (kept (length s) c) ≡ kept_step c
  kept_step_lem c l = kept_by c.at c.had c.left c.sort l

  -- the state after n calls from a new one, and what the next call then answers
  abbrev pub state_after : ℕ → RleCursor
  state_after n = after (λ k. (step_of s k).cursor) n (new_for (length s))

  abbrev pub answer_at : ℕ → RleAnswer
  answer_at n = (step_of s (state_after n)).answer

  pub nth-answer : (n : ℕ) → answer_at n ≡ answer_for (nth (trace u64_e s) n)
  nth-answer n =
      answers (step u64_e s) (λ c. c.at ≤ length s) (kept (length s)) (λ k. (step_of s k).cursor) (λ k. (step_of s k).answer) answer_for
      (λ c l. holds_by (λ d h. h.1) (step u64_e s c) (step-within u64_e u64-laws s c l))
      (λ c l. ap (λ (r : RleStepped). r.cursor) (kept_step_lem c l))
      (λ c l. ap (λ (r : RleStepped). r.answer) (kept_step_lem c l))
      n fresh (omega arith)
      ∙ ap answer_for (says-trace u64_e u64-laws s n)

  -- "the readings in order are the decoded list"; on a faulty column those before the first faulty one
  pub answers-readings : (n : ℕ) → n < length (trace u64_e s).readings → answer_at n ≡ answer_for (reading (get_or (trace u64_e s).readings n absent))
  answers-readings n l = in_order (trace u64_e s) answer_for answer_at nth-answer n absent l

  -- "and then the end, however often asked"
  pub answers-end : (m n : ℕ) → outcome (trace u64_e s) ≡ done m → m ≤ n → answer_at n ≡ answer.End
  answers-end m n h l = then-end (trace u64_e s) answer_for answer_at nth-answer m n h l

  -- "then the refusal of the whole-column call, again at every later call"
  pub answers-refusal : (number place n : ℕ) → outcome (trace u64_e s) ≡ refused number place → length (trace u64_e s).readings ≤ n → answer_at n ≡ answer.Refused number place
  answers-refusal number place n h l = then-refused (trace u64_e s) answer_for answer_at nth-answer number place n h l

pub agrees : (s t : List ℕ) (k : RleCursor) → Agree s t k.at → step_of s k ≡ step_of t k
unfolding step_of
agrees s t k h = ap (told k) (checked-agrees s t k.len k.at h (step-agrees u64_e u64-laws u64-reads s t (cursor_of k) h))
