-- `text_decoder::survey` meets its contract: the survey owed at each run's start is the one owed at the column's. Assumes nothing.
use Prim.Native.Nat.{◌-◌, ◌≤◌}
use mathlib.Core.Path.{◌≡◌}
use lib.ListN.{length}
use Rattle.encoding.specs.Column.{spot}
use Rattle.encoding.specs.Limit.{limit}
use Rattle.encoding.proofs.Surveying.{surveys}
use Rattle.text.proofs.Texts.{names}
use Rattle.text_decoder.proofs.survey.Given as goal

abbrev pub invariant-loop-at : goal.invariant-loop-at
invariant-loop-at l = (l.had ≤ limit) × (surveys (names l.s) (spot 0 0) ≡ surveys (names l.s) (spot l.at l.had))

abbrev pub decreases-loop-at : goal.decreases-loop-at
decreases-loop-at l = length l.s - l.at
