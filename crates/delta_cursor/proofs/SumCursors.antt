-- Laws of a cursor in a delta column: a step from any cursor gives the first of what is to come there, so from the fresh cursor the calls say
-- the column's trace (`says-sums`). Assumes nothing.
use Prim.Native.Nat.{ℕ, ◌≤◌}
use mathlib.Core.Path.{◌≡◌, refl, ◌∙◌, ap}
use mathlib.Core.List.{List}
use mathlib.Core.Option.{Option, none, some}
use lib.IntN.{ℤ, pos}
use lib.ListN.{length}
use Rattle.encoding.specs.Walk.{Trace}
use Rattle.encoding.specs.Column.{Reading, absent, present}
use Rattle.cursor.specs.Steps.{Stepped, ends, gives, calls, said, nth}
use Rattle.cursor.specs.Cursor.{Cursor, step, coming}
use Rattle.cursor.proofs.Stepping.{follows, only, Draws, says, Holds, holds_by}
use Rattle.cursor.proofs.Cursors.{draws-one, coming-fresh}
use Rattle.cursor.proofs.Advances.{step-within}
use Rattle.cursor.proofs.Agreeing.{Agree, i64-reads, step-agrees}
use Rattle.delta_decoder.specs.Difference.{i64_e}
use Rattle.delta_decoder.specs.Sums.{held_sum, added, add_up, delta_trace}
use Rattle.delta_decoder.proofs.DifferenceLaws.{i64-laws}
use Rattle.delta_cursor.specs.SumCursor.{SumCursor, sum_fresh, summed, add_step, delta_step, delta_coming}

abbrev add_trace : ℤ → Trace (Reading ℤ) → Trace (Reading ℤ)
add_trace z t = add_up z t.readings t.ending

module _ (s : List ℕ) where
  adds : (z : ℤ) (x : Stepped (Reading ℤ) (Cursor ℤ)) → add_trace z (follows only (coming i64_e s) x) ≡ follows only (delta_coming s) (add_step z x)
  unfolding add_up add_step delta_coming added summed
  adds z (ends e) = refl
  adds z (gives absent d) = refl
  adds z (gives (present x place) d) = go (held_sum z x)
    where
      go : (o : Option ℤ) → added place o (λ y. add_trace y (coming i64_e s d)) ≡ follows only (delta_coming s) (summed place o d)
      go none = refl
      go (some y) = refl

  -- THE LAW OF A STEP: from any cursor it gives the first of what is to come there
  pub draws-sum : Draws only (delta_step s) (delta_coming s)
  unfolding delta_step delta_coming
  draws-sum c = ap (add_trace c.sum) (draws-one i64_e i64-laws s c.differences) ∙ adds c.sum (step i64_e s c.differences)

  -- THE LAW OF THE CALLS: from the fresh cursor they say the readings of the trace in order, and then its ending, however often asked
  pub says-sums : (n : ℕ) → said (delta_step s (calls (delta_step s) n sum_fresh)) ≡ nth (delta_trace s) n
  unfolding delta_coming delta_trace
  says-sums n =
      says (delta_step s) (delta_coming s) draws-sum n sum_fresh
      ∙ ap (λ (t : Trace (Reading ℤ)). nth (add_trace (pos 0) t) n) (coming-fresh i64_e i64-laws s)

  -- what holds of the cursor behind a step in the differences holds behind the step
  holds-added : (P : Cursor ℤ → Type 0) (z : ℤ) (x : Stepped (Reading ℤ) (Cursor ℤ)) → Holds P x → Holds (λ d. P d.differences) (add_step z x)
  unfolding add_step summed
  holds-added P z (ends e) h = tt
  holds-added P z (gives absent d) h = h
  holds-added P z (gives (present x place) d) h = go (held_sum z x)
    where
      go : (o : Option ℤ) → Holds (λ d. P d.differences) (summed place o d)
      go none = tt
      go (some y) = h

  -- so it stays within the column
  pub sum-within : (c : SumCursor) → c.differences.at ≤ length s → Holds (λ d. d.differences.at ≤ length s) (delta_step s c)
  unfolding delta_step
  sum-within c l =
      let x = step i64_e s c.differences in
      holds-added (λ d. d.at ≤ length s) c.sum x (holds_by (λ d h. h.1) x (step-within i64_e i64-laws s c.differences l))

-- two columns of one length that agree from the cursor's position on give the same step
pub sum_agrees : (s t : List ℕ) (c : SumCursor) → Agree s t c.differences.at → delta_step s c ≡ delta_step t c
unfolding delta_step
sum_agrees s t c h = ap (add_step c.sum) (step-agrees i64_e i64-laws i64-reads s t c.differences h)
