-- What a step answers and leaves, by each way out of the code. Assumes nothing.
use Prim.Native.Nat.{ℕ, ◌-◌, ◌≤◌, ◌<◌}
use mathlib.Core.Path.{◌≡◌, ◌∙◌, ap}
use mathlib.Core.List.{List}
use lib.ListN.{length}
use Rattle.encoding.specs.Walk.{Next}
use Rattle.cursor.specs.Steps.{said, drawn}
use Rattle.cursor.specs.Kept.{leaves}
use Rattle.cursor.proofs.Keeping.{checked-passes, checked-other, checked-beyond}
use Rattle.boolean_cursor.specs.TurnCursor.{TurnCursor, turning, byte_of, one_turn, turn_ready, turn_step}
use Rattle.boolean_cursor.specs.State.{BooleanAnswer, Present, Refused, Told, cursor_of, kept, told, step_of}
use Rattle.boolean_cursor.specs.declared.BooleanCursor.{BooleanCursor}

-- one that answers a, and leaves the state k
abbrev out : BooleanCursor → BooleanAnswer → Told
out k a = record { cursor = k; answer = a }

pub one_out : (k c : BooleanCursor) {flag : ℕ} → flag ≡ byte_of c.flag
    → out (kept k.len (turning c.at c.had (c.left - 1) c.flag)) (Present flag) ≡ told k (one_turn (cursor_of c))
unfolding one_turn leaves said
one_out k c e = ap (λ (flag : ℕ). out (kept k.len (turning c.at c.had (c.left - 1) c.flag)) (Present flag)) e

module _ (s : List ℕ) (k : BooleanCursor) where
  pub step_other : (k.len ≡ length s → ⊥) → step_of s k ≡ out k (Refused 24 0)
  unfolding step_of leaves said
  step_other n = ap (told k) (checked-other k.len k.at s (turn_step s (cursor_of k)) n)

  pub step-beyond : length s < k.at → step_of s k ≡ out k (Refused 24 0)
  unfolding step_of leaves said
  step-beyond l = ap (told k) (checked-beyond k.len k.at s (turn_step s (cursor_of k)) l)

  -- a state that passes: by what is ready
  pub step-ready : {x : Next TurnCursor} → k.len ≡ length s → k.at ≤ length s → turn_ready s (cursor_of k) ≡ x → step_of s k ≡ told k (drawn one_turn x)
  unfolding step_of turn_step
  step-ready e l h =
      ap (told k) (checked-passes k.len k.at s (turn_step s (cursor_of k)) e l) ∙ ap (λ (x : Next TurnCursor). told k (drawn one_turn x)) h
