-- `delta_decoder::fill` meets its contract: answer and slots owed at each run's start are those owed at the column's. Assumes nothing.
use Prim.Native.Nat.{◌-◌, ◌^◌}
use lib.IntN.{pos}
use lib.ListN.{length}
use Rattle.encoding.specs.Slots.{slot_of, flag_of}
use Rattle.encoding.proofs.Filling.{Owed}
use Rattle.delta_decoder.specs.Sofar.{sofar}
use Rattle.delta_decoder.proofs.Deltas.{deltas}
use Rattle.delta_decoder.proofs.fill.Given as goal

abbrev pub invariant-loop-at : goal.invariant-loop-at
invariant-loop-at l = Owed (deltas l.s) (slot_of (pos 0)) flag_of (sofar 0 0 (2 ^ 63)) l.initial.values l.values l.initial.present l.present (sofar l.at l.had l.n)

abbrev pub decreases-loop-at : goal.decreases-loop-at
decreases-loop-at l = length l.s - l.at
