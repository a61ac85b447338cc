-- `rle_decoder::survey` meets its contract: the survey owed at each run's start is the one owed at the column's. Assumes nothing.
use Prim.Native.Nat.{◌-◌, ◌≤◌}
use mathlib.Core.Path.{◌≡◌}
use lib.ListN.{length}
use Rattle.encoding.specs.Column.{spot}
use Rattle.encoding.specs.Limit.{limit}
use Rattle.encoding.proofs.Surveying.{surveys}
use Rattle.rle_decoder.proofs.Words.{words}
use Rattle.rle_decoder.proofs.survey.Given as goal

abbrev pub invariant-loop-at : goal.invariant-loop-at
invariant-loop-at l = (l.had ≤ limit) × (surveys (words l.s) (spot 0 0) ≡ surveys (words l.s) (spot l.at l.had))

abbrev pub decreases-loop-at : goal.decreases-loop-at
decreases-loop-at l = length l.s - l.at
