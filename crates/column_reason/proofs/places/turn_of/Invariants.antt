-- `column_reason::places::turn_of` meets its contract: what is found from each count on is what is found from the first. Assumes nothing.
use Prim.Native.Nat.{◌-◌, ◌≤◌}
use lib.ListN.{length}
use Rattle.boolean_decoder.specs.Turns.{Turn, turn, turn_at}
use Rattle.reason.specs.Reason.{holding}
use Rattle.reason.specs.Runs.{runs}
use Rattle.column_reason.proofs.Seeking.{SeekingTurn}
use Rattle.column_reason.proofs.places.turn_of.Given as goal

abbrev pub invariant-loop-at : goal.invariant-loop-at
invariant-loop-at l = (l.turn ≤ l.at) × (l.had ≤ l.n) × SeekingTurn l.s l.n (holding (λ (st : Turn). st.had) l.n 0 (runs (turn_at l.s) (length l.s) (turn 0 0 0))) l.turn l.at l.had

abbrev pub decreases-loop-at : goal.decreases-loop-at
decreases-loop-at l = length l.s - l.at
