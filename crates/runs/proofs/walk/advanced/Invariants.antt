-- `runs::walk::advanced` meets its contract: the piece so far is the first of what comes behind the one that was held. Assumes nothing.
use Prim.Native.Nat.{◌-◌}
use lib.ListN.{length}
use Rattle.runs.specs.Values.{element_of}
use Rattle.runs.specs.Pieces.{list_of, Onto}
use Rattle.runs.proofs.walk.advanced.Given as goal

abbrev pub invariant-loop-r : goal.invariant-loop-r
invariant-loop-r l = Onto (element_of l.values).E l.s (list_of (element_of l.values).E l.s l.initial.r) l.r

abbrev pub decreases-loop-r : goal.decreases-loop-r
decreases-loop-r l = length l.s - l.r.at
