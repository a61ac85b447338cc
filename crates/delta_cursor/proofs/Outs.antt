-- What a step answers and leaves, by each way out of the code. Assumes nothing.
use Prim.Native.Nat.{ℕ, ◌-◌, ◌≤◌, ◌<◌}
use mathlib.Core.Path.{◌≡◌, sym, ◌∙◌, ap}
use mathlib.Core.List.{List}
use mathlib.Core.Option.{Option, none, some}
use lib.IntN.{ℤ}
use lib.ListN.{length}
use Rattle.leb128.specs.Got.{Got, got, bad}
use Rattle.leb128.specs.Read.{i64_at}
use Rattle.encoding.specs.Walk.{Next}
use Rattle.encoding.specs.Column.{absent, present}
use Rattle.cursor.specs.Steps.{said, drawn}
use Rattle.cursor.specs.Kept.{sort_of, leaves}
use Rattle.cursor.specs.Cursor.{Sort, same, literal, Cursor, cursor, one_literal, one_of, one, ready_at, step}
use Rattle.cursor.proofs.Keeping.{checked-passes, checked-other, checked-beyond, sort-absent, sort-repeat, sort-literal}
use Rattle.delta_decoder.specs.Difference.{i64_e}
use Rattle.delta_decoder.specs.Sums.{held_sum}
use Rattle.delta_cursor.specs.SumCursor.{summing, summed, add_step, delta_step}
use Rattle.delta_cursor.specs.State.{cursor_of, kept, told, step_of}
use Rattle.delta_cursor.specs.Cases.{differences_in, differences_of, one_repeat}
use Rattle.delta_cursor.specs.declared.DeltaCursor.{DeltaCursor}
use Rattle.delta_cursor.specs.declared.Differences.{Differences}
use Rattle.delta_cursor.specs.Answer.{DeltaAnswer, DeltaStepped}
use Rattle.delta_cursor.specs.Answer as answer

-- a step that answers a, and leaves the state k
abbrev out : DeltaCursor → DeltaAnswer → DeltaStepped
out k a = record { cursor = k; answer = a }

-- where the state is known by an equation
pub out-by : {d e : DeltaCursor} {a : DeltaAnswer} → d ≡ e → out d a ≡ out e a
out-by {a = a} h = ap (λ d. out d a) h

-- a difference added to the sum
module _ (k : DeltaCursor) (d : Cursor ℤ) (place : ℕ) {o : Option ℤ} where
  sum_is : {z : ℤ} → o ≡ some z → told k (summed place o d) ≡ out (kept k.len (summing d z)) (answer.Present z)
  unfolding summed leaves said
  sum_is e = ap (λ (o : Option ℤ). told k (summed place o d)) e

  sum-outside : o ≡ none → told k (summed place o d) ≡ out k (answer.Refused 6 place)
  unfolding summed leaves said
  sum-outside e = ap (λ (o : Option ℤ). told k (summed place o d)) e

module _ (k : DeltaCursor) (c : Differences) where
  -- a literal difference
  literal-sum : {g : Got ℤ} {x : ℤ} {next : ℕ} → g ≡ got x next
      → told k (add_step k.sum (one_literal (differences_of c) g))
      ≡ told k (summed c.at (held_sum k.sum x) (cursor next c.had (c.left - 1) literal))
  unfolding one_literal add_step
  literal-sum e = ap (λ (g : Got ℤ). told k (add_step k.sum (one_literal (differences_of c) g))) e

  pub literal-is : {g : Got ℤ} {x z : ℤ} {next : ℕ} → g ≡ got x next → held_sum k.sum x ≡ some z
      → told k (add_step k.sum (one_literal (differences_of c) g))
      ≡ out (kept k.len (summing (cursor next c.had (c.left - 1) literal) z)) (answer.Present z)
  literal-is {next = next} e h = literal-sum e ∙ sum_is k (cursor next c.had (c.left - 1) literal) c.at h

  pub literal-outside : {g : Got ℤ} {x : ℤ} {next : ℕ} → g ≡ got x next → held_sum k.sum x ≡ none
      → told k (add_step k.sum (one_literal (differences_of c) g)) ≡ out k (answer.Refused 6 c.at)
  literal-outside {next = next} e h = literal-sum e ∙ sum-outside k (cursor next c.had (c.left - 1) literal) c.at h

  pub literal-bad : {g : Got ℤ} {number place : ℕ} → g ≡ bad number place
      → told k (add_step k.sum (one_literal (differences_of c) g)) ≡ out k (answer.Refused number place)
  unfolding one_literal add_step leaves said
  literal-bad e = ap (λ (g : Got ℤ). told k (add_step k.sum (one_literal (differences_of c) g))) e

  -- a difference that repeats
  abbrev again : Cursor ℤ
  again = cursor c.at c.had (c.left - 1) (same (present c.difference c.place))

  pub repeat-is : {z : ℤ} → held_sum k.sum c.difference ≡ some z
      → told k (add_step k.sum (one_repeat c)) ≡ out (kept k.len (summing again z)) (answer.Present z)
  unfolding add_step
  repeat-is h = sum_is k again c.place h

  pub repeat-outside : held_sum k.sum c.difference ≡ none → told k (add_step k.sum (one_repeat c)) ≡ out k (answer.Refused 6 c.place)
  unfolding add_step
  repeat-outside h = sum-outside k again c.place h

module _ (s : List ℕ) (k : DeltaCursor) (c : Differences) where
  by-sort : {x : Sort ℤ} → sort_of c.sort c.difference c.place ≡ x
      → told k (add_step k.sum (one i64_e s (differences_of c))) ≡ told k (add_step k.sum (one_of i64_e s (differences_of c) x))
  by-sort e = ap (λ (x : Sort ℤ). told k (add_step k.sum (one_of i64_e s (differences_of c) x))) e

  pub one-absent : c.sort ≡ 0
      → told k (add_step k.sum (one i64_e s (differences_of c)))
      ≡ out (kept k.len (summing (cursor c.at c.had (c.left - 1) (same absent)) k.sum)) answer.Absent
  unfolding one_of add_step leaves said
  one-absent e = by-sort (sort-absent c.sort c.difference c.place e)

  pub one-repeat : c.sort ≡ 1 → told k (add_step k.sum (one i64_e s (differences_of c))) ≡ told k (add_step k.sum (one_repeat c))
  unfolding one_of
  one-repeat e = by-sort (sort-repeat c.sort c.difference c.place e)

  pub one-literal : (c.sort ≡ 0 → ⊥) → (c.sort ≡ 1 → ⊥)
      → told k (add_step k.sum (one i64_e s (differences_of c))) ≡ told k (add_step k.sum (one_literal (differences_of c) (i64_at s c.at)))
  unfolding one_of
  one-literal z o = by-sort (sort-literal c.sort c.difference c.place z o)

module _ (s : List ℕ) (k : DeltaCursor) where
  pub step_other : (k.len ≡ length s → ⊥) → step_of s k ≡ out k (answer.Refused 24 0)
  unfolding step_of leaves said
  step_other n = ap (told k) (checked-other k.len k.at s (delta_step s (cursor_of k)) n)

  pub step-beyond : length s < k.at → step_of s k ≡ out k (answer.Refused 24 0)
  unfolding step_of leaves said
  step-beyond l = ap (told k) (checked-beyond k.len k.at s (delta_step s (cursor_of k)) l)

  -- a state that passes: by what is ready from where it stands in the differences
  pub step-ready : {c : Differences} {x : Next (Cursor ℤ)} → k.len ≡ length s → k.at ≤ length s → c ≡ differences_in k
      → ready_at i64_e s (differences_of c) ≡ x → step_of s k ≡ told k (add_step k.sum (drawn (one i64_e s) x))
  unfolding step_of delta_step step
  step-ready e l w h =
      ap (told k) (checked-passes k.len k.at s (delta_step s (cursor_of k)) e l)
      ∙ ap (λ (c : Differences). told k (add_step k.sum (drawn (one i64_e s) (ready_at i64_e s (differences_of c))))) (sym w)
      ∙ ap (λ (x : Next (Cursor ℤ)). told k (add_step k.sum (drawn (one i64_e s) x))) h
