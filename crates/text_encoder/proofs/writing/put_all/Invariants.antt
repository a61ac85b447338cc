-- `text_encoder::writing::put_all` meets its contract: what the stretches from the walk on owe at the position is what all owe at 0. Assumes nothing.
use Prim.Native.Nat.{◌+◌, ◌≤◌}
use mathlib.Core.Path.{◌≡◌}
use lib.ListN.{length}
use lib.Seq.{sets}
use Rattle.encoding.specs.Limit.{limit}
use Rattle.text.specs.Text.{text_e}
use Rattle.text_encoder.specs.Walks.{At, names_from}
use Rattle.encoding.proofs.Written.{owing}
use Rattle.text_encoder.proofs.writing.put_all.Given as goal

abbrev pub invariant-loop-walk : goal.invariant-loop-walk
invariant-loop-walk l = At l.column l.bytes l.starts l.lens l.present l.walk
    × (length (names_from l.column l.bytes l.starts l.lens l.present l.walk) ≤ limit)
    × (length l.out ≡ length l.initial.out)
    × (l.at + length (owing text_e (names_from l.column l.bytes l.starts l.lens l.present l.walk)) ≤ length l.initial.out)
    × (sets l.initial.out 0 (owing text_e (names_from l.column l.bytes l.starts l.lens l.present l.initial.walk)) ≡ sets l.out l.at
    (owing text_e (names_from l.column l.bytes l.starts l.lens l.present l.walk)))

abbrev pub decreases-loop-walk : goal.decreases-loop-walk
decreases-loop-walk l = length (names_from l.column l.bytes l.starts l.lens l.present l.walk)
