-- `text_decoder::fill` meets its contract: answer and slots owed at each run's start are those owed at the column's. Assumes nothing.
use Prim.Native.Nat.{◌-◌}
use lib.ListN.{length}
use Rattle.encoding.specs.Column.{spot}
use Rattle.encoding.specs.Slots.{flag_of}
use Rattle.encoding.proofs.Filling.{Owed}
use Rattle.text.specs.Name.{start_of, length_of}
use Rattle.text.proofs.Texts.{names}
use Rattle.text_decoder.proofs.fill.Given as goal

abbrev pub invariant-loop-at : goal.invariant-loop-at
invariant-loop-at l = Owed (names l.s) start_of flag_of (spot 0 0) l.initial.starts l.starts l.initial.present l.present (spot l.at l.filled)
    × Owed (names l.s) length_of flag_of (spot 0 0) l.initial.lens l.lens l.initial.present l.present (spot l.at l.filled)

abbrev pub decreases-loop-at : goal.decreases-loop-at
decreases-loop-at l = length l.s - l.at
