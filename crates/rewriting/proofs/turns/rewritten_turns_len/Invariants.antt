-- `rewriting::turns::rewritten_turns_len` meets its contract: between two counts, what is still to come brings what is known to what is asked. Assumes nothing.
use Prim.Native.Nat.{◌-◌}
use lib.ListN.{length}
use Rattle.rewriting.specs.Turned.{turns_of}
use Rattle.rewriting.proofs.TurnSteps.{Walked}
use Rattle.rewriting.proofs.turns.rewritten_turns_len.Given as goal

abbrev pub invariant-loop-at : goal.invariant-loop-at
invariant-loop-at l = Walked l.s l.room (turns_of l.c) l.at l.had l.flag

abbrev pub decreases-loop-at : goal.decreases-loop-at
decreases-loop-at l = length l.s - l.at
