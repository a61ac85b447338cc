-- `text_encoder::sizes::bytes_len` meets its contract: the size owed is n and what the stretches from the walk on take. Assumes nothing.
use Prim.Native.Nat.{◌+◌, ◌^◌, ◌≤◌, ◌<◌}
use mathlib.Core.Path.{◌≡◌}
use lib.ListN.{length}
use Rattle.encoding.specs.Limit.{limit}
use Rattle.text.specs.Text.{text_e}
use Rattle.encoding.specs.Cases.{fit}
use Rattle.text_encoder.specs.Walks.{At, names_from}
use Rattle.encoding.proofs.Written.{owing}
use Rattle.text_encoder.proofs.sizes.bytes_len.Given as goal

abbrev pub invariant-loop-walk : goal.invariant-loop-walk
invariant-loop-walk l = At l.column l.bytes l.starts l.lens l.present l.walk
    × (length (names_from l.column l.bytes l.starts l.lens l.present l.walk) ≤ limit)
    × (l.n < 2 ^ 64)
    × (fit (length (owing text_e (names_from l.column l.bytes l.starts l.lens l.present l.initial.walk))) ≡ fit
    (l.n + length (owing text_e (names_from l.column l.bytes l.starts l.lens l.present l.walk))))

abbrev pub decreases-loop-walk : goal.decreases-loop-walk
decreases-loop-walk l = length (names_from l.column l.bytes l.starts l.lens l.present l.walk)
