-- `delta_decoder::fill_sums` meets its contract: each sum comes first of those still to come, or is not held. Assumes nothing.
use Prim.Native.Nat.{◌+◌}
use lib.IntN.{pos}
use lib.ListN.{replicate}
use Rattle.leb128.specs.Got.{got}
use Rattle.encoding.specs.Walk.{whole}
use Rattle.encoding.specs.Column.{present, spot, repeated}
use Rattle.encoding.specs.Slots.{slot_of, flag_of}
use Rattle.delta_decoder.specs.Sofar.{summing}
use Rattle.encoding.proofs.Running.{Partly}
use Rattle.delta_decoder.proofs.fill_sums.Given as goal

abbrev pub invariant-loop-left : goal.invariant-loop-left
invariant-loop-left l = Partly (slot_of (pos 0)) flag_of (summing l.sum (repeated l.had l.c l.q (got l.d l.next))) l.had l.initial.values l.initial.present
    (summing l.n (whole (replicate l.left (present l.d l.q)) (spot l.next (l.had + l.c)))) l.i l.values l.present

abbrev pub decreases-loop-left : goal.decreases-loop-left
decreases-loop-left l = l.left
