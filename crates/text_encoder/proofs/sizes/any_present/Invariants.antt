-- `text_encoder::sizes::any_present` meets its contract: a piece that is absent is passed whole. Assumes nothing.
use mathlib.Core.Path.{◌≡◌}
use lib.ListN.{length}
use Rattle.encoding.specs.Writer.{any_present}
use Rattle.text_encoder.specs.Walks.{At, names_from}
use Rattle.text_encoder.proofs.sizes.any_present.Given as goal

abbrev pub invariant-loop-walk : goal.invariant-loop-walk
invariant-loop-walk l = At l.column l.bytes l.starts l.lens l.present l.walk
    × (any_present (names_from l.column l.bytes l.starts l.lens l.present l.initial.walk) ≡ any_present (names_from l.column l.bytes l.starts l.lens l.present l.walk))

abbrev pub decreases-loop-walk : goal.decreases-loop-walk
decreases-loop-walk l = length (names_from l.column l.bytes l.starts l.lens l.present l.walk)
