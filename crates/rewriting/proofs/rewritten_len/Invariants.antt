-- `rewriting::rewritten_len` meets its contract: what is owed at each run's start is what is owed at the column's. Assumes nothing.
use Prim.Native.Nat.{◌-◌, ◌≤◌}
use mathlib.Core.Path.{◌≡◌}
use lib.ListN.{length}
use Rattle.encoding.specs.Limit.{limit}
use Rattle.rewriting.specs.Cutter.{fresh, fed_all}
use Rattle.runs.specs.Values.{element_of}
use Rattle.rewriting.specs.Values.{plain_e, Kept, cut_of, owed_from}
use Rattle.rewriting.proofs.rewritten_len.Given as goal

abbrev pub invariant-loop-at : goal.invariant-loop-at
invariant-loop-at l = (l.had ≤ limit)
    × Kept l.s l.cutter l.had
    × (fed_all plain_e l.room fresh (owed_from (element_of l.values).E l.s l.most 0 0) ≡ fed_all plain_e l.room (cut_of l.s l.cutter) (owed_from (element_of l.values).E l.s l.most l.at l.had))

abbrev pub decreases-loop-at : goal.decreases-loop-at
decreases-loop-at l = length l.s - l.at
