-- `text_encoder::sizes::literal_len` meets its contract: the size owed is n and what the names from the walk on take. Assumes nothing.
use Prim.Native.Nat.{◌+◌, ◌^◌, ◌≤◌, ◌<◌}
use mathlib.Core.Path.{◌≡◌}
use lib.ListN.{length, take}
use Rattle.encoding.specs.Writer.{all_bytes}
use Rattle.text.specs.Text.{text_e}
use Rattle.encoding.specs.Cases.{fit}
use Rattle.encoding.specs.Cuts.{somes}
use Rattle.text_encoder.specs.Walks.{At, names_from}
use Rattle.text_encoder.proofs.sizes.literal_len.Given as goal

abbrev pub invariant-loop-left : goal.invariant-loop-left
invariant-loop-left l = At l.column l.bytes l.starts l.lens l.present l.walk
    × (l.left ≤ length (names_from l.column l.bytes l.starts l.lens l.present l.walk))
    × (l.n < 2 ^ 64)
    × (fit (l.before + length (all_bytes text_e (somes (take l.k (names_from l.column l.bytes l.starts l.lens l.present l.initial.walk)))))
    ≡ fit (l.n + length (all_bytes text_e (somes (take l.left (names_from l.column l.bytes l.starts l.lens l.present l.walk))))))

abbrev pub decreases-loop-left : goal.decreases-loop-left
decreases-loop-left l = l.left
