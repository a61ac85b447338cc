-- `text_decoder::fill_same` meets its contract: the stores still to come, put into the slots as they are, are all of them. Assumes nothing.
use Prim.Native.Nat.{◌+◌, ◌≤◌}
use mathlib.Core.Path.{◌≡◌}
use lib.ListN.{length, replicate}
use lib.Seq.{sets}
use Rattle.text_decoder.proofs.fill_same.Given as goal

abbrev pub invariant-loop-left : goal.invariant-loop-left
invariant-loop-left l = (l.i + l.left ≤ length l.initial.starts)
    × (length l.starts ≡ length l.initial.starts)
    × (length l.lens ≡ length l.initial.lens)
    × (length l.present ≡ length l.initial.present)
    × (sets l.initial.starts l.from (replicate l.c l.start) ≡ sets l.starts l.i (replicate l.left l.start))
    × (sets l.initial.lens l.from (replicate l.c l.len) ≡ sets l.lens l.i (replicate l.left l.len))
    × (sets l.initial.present l.from (replicate l.c l.p) ≡ sets l.present l.i (replicate l.left l.p))

abbrev pub decreases-loop-left : goal.decreases-loop-left
decreases-loop-left l = l.left
