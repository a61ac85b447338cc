-- `boolean_decoder::fill` meets its contract: each count owes the same answer and the same slots as the start. Assumes nothing.
use Prim.Native.Nat.{◌-◌, ◌≤◌}
use lib.ListN.{length}
use Rattle.boolean_decoder.specs.Turns.{turn}
use Rattle.boolean_decoder.proofs.Decoding.{Owing}
use Rattle.boolean_decoder.proofs.fill.Given as goal

abbrev pub invariant-loop-at : goal.invariant-loop-at
invariant-loop-at l = (l.flag ≤ 1) × Owing l.s l.initial.values l.values (turn l.at l.had l.flag)

abbrev pub decreases-loop-at : goal.decreases-loop-at
decreases-loop-at l = length l.s - l.at
