-- What a step answers and leaves, by each way out of the code. Assumes nothing.
use Prim.Native.Nat.{ℕ, ◌-◌, ◌≤◌, ◌<◌}
use mathlib.Core.Path.{◌≡◌, ◌∙◌, ap}
use mathlib.Core.List.{List}
use lib.ListN.{length}
use Rattle.leb128.specs.Got.{Got, got, bad}
use Rattle.leb128.specs.Read.{u64_at}
use Rattle.encoding.specs.Walk.{Next, on}
use Rattle.encoding.specs.Column.{absent, present}
use Rattle.cursor.specs.Steps.{said, drawn}
use Rattle.cursor.specs.Kept.{sort_of, leaves}
use Rattle.cursor.specs.Cursor.{Sort, same, literal, Cursor, cursor, one_literal, one_of, one, ready_at, step}
use Rattle.cursor.proofs.Keeping.{checked-passes, checked-other, checked-beyond, sort-absent, sort-repeat, sort-literal}
use Rattle.rle_decoder.specs.Word.{u64_e}
use Rattle.rle_cursor.specs.State.{cursor_of, kept, told, step_of}
use Rattle.rle_cursor.specs.declared.RleCursor.{RleCursor}
use Rattle.rle_cursor.specs.Answer.{RleAnswer, RleStepped}
use Rattle.rle_cursor.specs.Answer as answer

-- a step that answers a, and leaves the state k
abbrev out : RleCursor → RleAnswer → RleStepped
out k a = record { cursor = k; answer = a }

-- where the state is known by an equation
pub out-by : {d e : RleCursor} {a : RleAnswer} → d ≡ e → out d a ≡ out e a
out-by {a = a} h = ap (λ d. out d a) h

pub on-by : {d e : RleCursor} → d ≡ e → on (cursor_of d) ≡ on (cursor_of e)
on-by h = ap (λ d. on (cursor_of d)) h

module _ (k c : RleCursor) where
  pub literal-got : {g : Got ℕ} {v next : ℕ} → g ≡ got v next
      → told k (one_literal (cursor_of c) g) ≡ out (kept k.len (cursor next c.had (c.left - 1) literal)) (answer.Present v)
  unfolding one_literal leaves said
  literal-got e = ap (λ (g : Got ℕ). told k (one_literal (cursor_of c) g)) e

  pub literal-bad : {g : Got ℕ} {number place : ℕ} → g ≡ bad number place → told k (one_literal (cursor_of c) g) ≡ out k (answer.Refused number place)
  unfolding one_literal leaves said
  literal-bad e = ap (λ (g : Got ℕ). told k (one_literal (cursor_of c) g)) e

module _ (s : List ℕ) (k c : RleCursor) where
  by-sort : {x : Sort ℕ} → sort_of c.sort c.value c.place ≡ x → told k (one u64_e s (cursor_of c)) ≡ told k (one_of u64_e s (cursor_of c) x)
  by-sort e = ap (λ (x : Sort ℕ). told k (one_of u64_e s (cursor_of c) x)) e

  pub one-absent : c.sort ≡ 0
      → told k (one u64_e s (cursor_of c)) ≡ out (kept k.len (cursor c.at c.had (c.left - 1) (same absent))) answer.Absent
  unfolding one_of leaves said
  one-absent e = by-sort (sort-absent c.sort c.value c.place e)

  pub one-repeat : c.sort ≡ 1
      → told k (one u64_e s (cursor_of c))
      ≡ out (kept k.len (cursor c.at c.had (c.left - 1) (same (present c.value c.place)))) (answer.Present c.value)
  unfolding one_of leaves said
  one-repeat e = by-sort (sort-repeat c.sort c.value c.place e)

  pub one-literal : (c.sort ≡ 0 → ⊥) → (c.sort ≡ 1 → ⊥) → told k (one u64_e s (cursor_of c)) ≡ told k (one_literal (cursor_of c) (u64_at s c.at))
  unfolding one_of
  one-literal z o = by-sort (sort-literal c.sort c.value c.place z o)

module _ (s : List ℕ) (k : RleCursor) where
  pub step_other : (k.len ≡ length s → ⊥) → step_of s k ≡ out k (answer.Refused 24 0)
  unfolding step_of leaves said
  step_other n = ap (told k) (checked-other k.len k.at s (step u64_e s (cursor_of k)) n)

  pub step-beyond : length s < k.at → step_of s k ≡ out k (answer.Refused 24 0)
  unfolding step_of leaves said
  step-beyond l = ap (told k) (checked-beyond k.len k.at s (step u64_e s (cursor_of k)) l)

  -- a state that passes: by what is ready
  pub step-ready : {x : Next (Cursor ℕ)} → k.len ≡ length s → k.at ≤ length s → ready_at u64_e s (cursor_of k) ≡ x
      → step_of s k ≡ told k (drawn (one u64_e s) x)
  unfolding step_of step
  step-ready e l h =
      ap (told k) (checked-passes k.len k.at s (step u64_e s (cursor_of k)) e l)
      ∙ ap (λ (x : Next (Cursor ℕ)). told k (drawn (one u64_e s) x)) h
