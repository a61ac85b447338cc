-- `pen_log::judge_log` meets its contract: what is owed stays the same from entry to entry. Assumes nothing.
use Prim.Native.Nat.{◌-◌, ◌≤◌}
use mathlib.Core.Path.{◌≡◌}
use lib.ListN.{length}
use Rattle.encoding.specs.Limit.{limit}
use Rattle.pen_log.specs.Lengths.{judged_from}
use Rattle.pen_log.specs.Log.{entries_from, entries}
use Rattle.pen_log.proofs.judge_log.Given as goal

abbrev pub invariant-loop-at : goal.invariant-loop-at
invariant-loop-at l = (l.len ≤ limit) × (judged_from l.slots l.old (entries l.log) ≡ judged_from l.slots l.len (entries_from l.log l.at))

abbrev pub decreases-loop-at : goal.decreases-loop-at
decreases-loop-at l = length l.log - l.at
