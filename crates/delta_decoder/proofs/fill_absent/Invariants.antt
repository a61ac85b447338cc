-- `delta_decoder::fill_absent` meets its contract: the stores still to come, put into the slots as they are, are all of them. Assumes nothing.
use Prim.Native.Nat.{◌+◌, ◌≤◌}
use mathlib.Core.Path.{◌≡◌}
use lib.IntN.{pos}
use lib.ListN.{length, replicate}
use lib.Seq.{sets}
use Rattle.delta_decoder.proofs.fill_absent.Given as goal

abbrev pub invariant-loop-left : goal.invariant-loop-left
invariant-loop-left l = (l.i + l.left ≤ length l.initial.values)
    × (length l.values ≡ length l.initial.values)
    × (length l.present ≡ length l.initial.present)
    × (sets l.initial.values l.from (replicate l.c (pos 0)) ≡ sets l.values l.i (replicate l.left (pos 0)))
    × (sets l.initial.present l.from (replicate l.c 0) ≡ sets l.present l.i (replicate l.left 0))

abbrev pub decreases-loop-left : goal.decreases-loop-left
decreases-loop-left l = l.left
