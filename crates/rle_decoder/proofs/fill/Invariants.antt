-- `rle_decoder::fill` meets its contract: answer and slots owed at each run's start are those owed at the column's. Assumes nothing.
use Prim.Native.Nat.{◌-◌}
use lib.ListN.{length}
use Rattle.encoding.specs.Column.{spot}
use Rattle.encoding.specs.Slots.{slot_of, flag_of}
use Rattle.encoding.proofs.Filling.{Owed}
use Rattle.rle_decoder.proofs.Words.{words}
use Rattle.rle_decoder.proofs.fill.Given as goal

abbrev pub invariant-loop-at : goal.invariant-loop-at
invariant-loop-at l = Owed (words l.s) (slot_of 0) flag_of (spot 0 0) l.initial.values l.values l.initial.present l.present (spot l.at l.filled)

abbrev pub decreases-loop-at : goal.decreases-loop-at
decreases-loop-at l = length l.s - l.at
