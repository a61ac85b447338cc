-- `boolean_decoder::survey` meets its contract: each count owes the same survey as the start. Assumes nothing.
use Prim.Native.Nat.{◌-◌, ◌≤◌}
use mathlib.Core.Path.{◌≡◌}
use lib.ListN.{length}
use Rattle.encoding.specs.Limit.{limit}
use Rattle.encoding.proofs.Surveying.{surveys}
use Rattle.boolean_decoder.specs.Turns.{turn}
use Rattle.boolean_decoder.proofs.Turning.{turns}
use Rattle.boolean_decoder.proofs.survey.Given as goal

abbrev pub invariant-loop-at : goal.invariant-loop-at
invariant-loop-at l = (l.had ≤ limit) × (l.flag ≤ 1) × (surveys (turns l.s) (turn 0 0 0) ≡ surveys (turns l.s) (turn l.at l.had l.flag))

abbrev pub decreases-loop-at : goal.decreases-loop-at
decreases-loop-at l = length l.s - l.at
