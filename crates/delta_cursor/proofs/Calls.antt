-- THE THEOREMS of [5] for delta columns. From a new state the n-th answer, by the contract of `next` over and over, is what the trace of the
-- column has to say (`nth-answer`): its readings in order, then the end, however often asked, or the refusal of the whole-column call, again at
-- every later call. And from any state two columns of one length that agree from its position on give the same step (`agrees`). Assumes nothing.
use Prim.Native.Nat.{ℕ, ◌≤◌, ◌<◌}
use mathlib.Core.Path.{◌≡◌, refl, ◌∙◌, ap}
use mathlib.Core.List.{List}
use native.Mathlib.Omega.{arith}
use lib.IntN.{ℤ}
use lib.ListN.{length, get_or}
use Rattle.leb128.specs.Answer.{done, refused}
use Rattle.encoding.specs.Walk.{outcome}
use Rattle.encoding.specs.Column.{absent, present}
use Rattle.cursor.specs.Steps.{said, reading, nth}
use Rattle.cursor.specs.Kept.{sort_of, leaves, after}
use Rattle.cursor.specs.Cursor.{Sort, same, literal, cursor}
use Rattle.cursor.proofs.Keeping.{checked-passes, answers}
use Rattle.cursor.proofs.Saying.{in_order, then-end, then-refused}
use Rattle.cursor.proofs.Agreeing.{Agree, checked-agrees}
use Rattle.delta_decoder.specs.Sums.{delta_trace}
use Rattle.delta_cursor.specs.SumCursor.{SumCursor, summing, sum_fresh, delta_step}
use Rattle.delta_cursor.specs.State.{cursor_of, bare_at, kept_as, kept, new_for, answer_for, told, step_of}
use Rattle.delta_cursor.specs.declared.DeltaCursor.{DeltaCursor}
use Rattle.delta_cursor.specs.Answer.{DeltaAnswer, DeltaStepped}
use Rattle.delta_cursor.specs.Answer as answer
use Rattle.delta_cursor.proofs.SumCursors.{says-sums, sum-within, sum_agrees}

module _ (s : List ℕ) where
  -- a state that keeps a cursor within the column passes the check, and its step is the cursor's
  abbrev pub kept_step : SumCursor → DeltaStepped
  kept_step c = record { cursor = leaves (kept (length s)) (kept (length s) c) (delta_step s c); answer = answer_for (said (delta_step s c)) }

  kept_by : (at had left : ℕ) (x : Sort ℤ) (z : ℤ) → at ≤ length s
      → step_of s (kept (length s) (summing (cursor at had left x) z)) ≡ kept_step (summing (cursor at had left x) z)
  unfolding step_of sort_of
  kept_by at had left (same absent) z l = ap (told (bare_at (length s) at had left 0 z)) (checked-passes (length s) at s _ refl l)
  kept_by at had left (same (present d q)) z l =
      ap (told (kept_as (length s) at had left (same (present d q)) z)) (checked-passes (length s) at s _ refl l)
  kept_by at had left literal z l = ap (told (bare_at (length s) at had left 2 z)) (checked-passes (length s) at s _ refl l)

  pub kept_step_lem : (c : SumCursor) → c.differences.at ≤ length s → step_of s (kept (length s) c) ≡ kept_step c
  kept_step_lem c l = kept_by c.differences.at c.differences.had c.differences.left c.differences.sort c.sum l

  -- the state after n calls from a new one, and what the next call then answers
  abbrev pub state_after : ℕ → DeltaCursor
  state_after n = after (λ k. (step_of s k).cursor) n (new_for (length s))

  abbrev pub answer_at : ℕ → DeltaAnswer
  answer_at n = (step_of s (state_after n)).answer

  pub nth-answer : (n : ℕ) → answer_at n ≡ answer_for (nth (delta_trace s) n)
  nth-answer n =
      answers (delta_step s) (λ c. c.differences.at ≤ length s) (kept (length s)) (λ k. (step_of s k).cursor) (λ k. (step_of s k).answer) answer_for
      (sum-within s)
      (λ c l. ap (λ (r : DeltaStepped). r.cursor) (kept_step_lem c l))
      (λ c l. ap (λ (r : DeltaStepped). r.answer) (kept_step_lem c l))
      n sum_fresh (omega arith)
      ∙ ap answer_for (says-sums s n)

  -- "the readings in order are the decoded list"; on a faulty column those before the first faulty one
  pub answers-readings : (n : ℕ) → n < length (delta_trace s).readings → answer_at n ≡ answer_for (reading (get_or (delta_trace s).readings n absent))
  answers-readings n l = in_order (delta_trace s) answer_for answer_at nth-answer n absent l

  -- "and then the end, however often asked"
  pub answers-end : (m n : ℕ) → outcome (delta_trace s) ≡ done m → m ≤ n → answer_at n ≡ answer.End
  answers-end m n h l = then-end (delta_trace s) answer_for answer_at nth-answer m n h l

  -- "then the refusal of the whole-column call, again at every later call"
  pub answers-refusal : (number place n : ℕ) → outcome (delta_trace s) ≡ refused number place → length (delta_trace s).readings ≤ n → answer_at n ≡ answer.Refused number place
  answers-refusal number place n h l = then-refused (delta_trace s) answer_for answer_at nth-answer number place n h l

pub agrees : (s t : List ℕ) (k : DeltaCursor) → Agree s t k.at → step_of s k ≡ step_of t k
unfolding step_of
agrees s t k h = ap (told k) (checked-agrees s t k.len k.at h (sum_agrees s t (cursor_of k) h))
