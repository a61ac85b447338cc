-- `text_encoder::walk::ready` meets its contract: the same readings are to come behind each head that is passed. Assumes nothing.
use Prim.Native.Nat.{◌-◌}
use lib.ListN.{length}
use Rattle.text_encoder.specs.Walks.{Onward}
use Rattle.text_encoder.proofs.walk.ready.Given as goal

abbrev pub invariant-loop-c : goal.invariant-loop-c
invariant-loop-c l = Onward l.column l.initial.c l.c

abbrev pub decreases-loop-c : goal.decreases-loop-c
decreases-loop-c l = length l.column - l.c.at
