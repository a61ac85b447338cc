-- `text_encoder::writing::put_literal` meets its contract: what the names from the walk on owe at the position is what all owe at the start.
-- Assumes nothing.
use Prim.Native.Nat.{◌+◌, ◌≤◌}
use mathlib.Core.Path.{◌≡◌}
use lib.ListN.{length, take}
use lib.Seq.{sets}
use Rattle.encoding.specs.Writer.{all_bytes}
use Rattle.text.specs.Text.{text_e}
use Rattle.encoding.specs.Cuts.{somes}
use Rattle.text_encoder.specs.Walks.{At, names_from}
use Rattle.text_encoder.proofs.writing.put_literal.Given as goal

abbrev pub invariant-loop-left : goal.invariant-loop-left
invariant-loop-left l = At l.column l.bytes l.starts l.lens l.present l.walk
    × (l.left ≤ length (names_from l.column l.bytes l.starts l.lens l.present l.walk))
    × (length l.out ≡ length l.initial.out)
    × (l.at + length (all_bytes text_e (somes (take l.left (names_from l.column l.bytes l.starts l.lens l.present l.walk))))
    ≡ l.from + length (all_bytes text_e (somes (take l.k (names_from l.column l.bytes l.starts l.lens l.present l.initial.walk)))))
    × (sets l.initial.out l.from (all_bytes text_e (somes (take l.k (names_from l.column l.bytes l.starts l.lens l.present l.initial.walk))))
    ≡ sets l.out l.at (all_bytes text_e (somes (take l.left (names_from l.column l.bytes l.starts l.lens l.present l.walk)))))

abbrev pub decreases-loop-left : goal.decreases-loop-left
decreases-loop-left l = l.left
