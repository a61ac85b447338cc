-- THE THEOREMS of [5] for boolean columns. From a new state the n-th answer, by the contract of `next` over and over, is what the trace of the
-- column has to say (`nth-answer`): its readings in order, then the end, however often asked, or the refusal of the whole-column call, again at
-- every later call. And from any state two columns of one length that agree from its position on give the same step (`agrees`). Assumes nothing.
use Prim.Native.Nat.{ℕ, ◌≤◌, ◌<◌}
use mathlib.Core.Path.{◌≡◌, refl, ◌∙◌, ap}
use mathlib.Core.List.{List}
use native.Mathlib.Omega.{arith}
use lib.ListN.{length, get_or}
use Rattle.leb128.specs.Answer.{done, refused}
use Rattle.encoding.specs.Walk.{outcome}
use Rattle.cursor.specs.Steps.{nth}
use Rattle.cursor.specs.Kept.{after}
use Rattle.cursor.proofs.Keeping.{checked-passes, answers}
use Rattle.cursor.proofs.Saying.{in_order, then-end, then-refused}
use Rattle.cursor.proofs.Agreeing.{Agree, checked-agrees}
use Rattle.boolean_decoder.specs.Turns.{bool_trace}
use Rattle.boolean_cursor.specs.TurnCursor.{TurnCursor, turn_fresh, turn_step}
use Rattle.boolean_cursor.specs.State.{BooleanAnswer, Present, End, Refused, Told, cursor_of, kept, new_for, answer_for, told, step_of}
use Rattle.boolean_cursor.specs.declared.BooleanCursor.{BooleanCursor}
use Rattle.boolean_cursor.proofs.TurnCursors.{says-turns, turn-within, turn-agrees}

module _ (s : List ℕ) where
  -- a state that keeps a cursor within the column passes the check, and its step is the cursor's
  pub step_kept : (c : TurnCursor) → c.at ≤ length s → step_of s (kept (length s) c) ≡ told (kept (length s) c) (turn_step s c)
  unfolding step_of
  step_kept c l = ap (told (kept (length s) c)) (checked-passes (length s) c.at s (turn_step s c) refl l)

  -- the state after n calls from a new one, and what the next call then answers
  abbrev pub state_after : ℕ → BooleanCursor
  state_after n = after (λ k. (step_of s k).cursor) n (new_for (length s))

  abbrev pub answer_at : ℕ → BooleanAnswer
  answer_at n = (step_of s (state_after n)).answer

  pub nth-answer : (n : ℕ) → answer_at n ≡ answer_for (nth (bool_trace s) n)
  nth-answer n =
      answers (turn_step s) (λ c. c.at ≤ length s) (kept (length s)) (λ k. (step_of s k).cursor) (λ k. (step_of s k).answer) answer_for
      (turn-within s)
      (λ c h. ap (λ (r : Told). r.cursor) (step_kept c h))
      (λ c h. ap (λ (r : Told). r.answer) (step_kept c h))
      n turn_fresh (omega arith)
      ∙ ap answer_for (says-turns s n)

  -- "the readings in order are the decoded list"; on a faulty column those before the first faulty one
  pub answers-readings : (n : ℕ) → n < length (bool_trace s).readings → answer_at n ≡ Present (get_or (bool_trace s).readings n 0)
  answers-readings n l = in_order (bool_trace s) answer_for answer_at nth-answer n 0 l

  -- "and then the end, however often asked"
  pub answers-end : (m n : ℕ) → outcome (bool_trace s) ≡ done m → m ≤ n → answer_at n ≡ End
  answers-end m n h l = then-end (bool_trace s) answer_for answer_at nth-answer m n h l

  -- "then the refusal of the whole-column call, again at every later call"
  pub answers-refusal : (number place n : ℕ) → outcome (bool_trace s) ≡ refused number place → length (bool_trace s).readings ≤ n → answer_at n ≡ Refused number place
  answers-refusal number place n h l = then-refused (bool_trace s) answer_for answer_at nth-answer number place n h l

pub agrees : (s t : List ℕ) (k : BooleanCursor) → Agree s t k.at → step_of s k ≡ step_of t k
unfolding step_of
agrees s t k h = ap (told k) (checked-agrees s t k.len k.at h (turn-agrees s t (cursor_of k) h))
