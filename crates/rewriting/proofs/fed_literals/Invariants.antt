-- `rewriting::fed_literals` meets its contract: what is owed from each literal value on is what is owed from the first. Assumes nothing.
use Prim.Native.Nat.{◌≤◌}
use mathlib.Core.Path.{◌≡◌}
use lib.ListN.{length}
use Rattle.rewriting.specs.Cutter.{fed_all}
use Rattle.runs.specs.Values.{element_of}
use Rattle.rewriting.specs.Values.{plain_e, Kept, cut_of, owed_literals}
use Rattle.rewriting.proofs.fed_literals.Given as goal

abbrev pub invariant-loop-i : goal.invariant-loop-i
invariant-loop-i l = (l.i ≤ l.total)
    × (l.q ≤ l.at)
    × (l.at ≤ length l.s)
    × Kept l.s l.cutter l.i
    × (fed_all plain_e l.room (cut_of l.s l.initial.cutter) (owed_literals (element_of l.values).E l.s l.most l.total l.had l.q)
    ≡ fed_all plain_e l.room (cut_of l.s l.cutter) (owed_literals (element_of l.values).E l.s l.most l.total l.i l.at))
