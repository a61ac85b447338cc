-- `text_encoder::walk::skipped` meets its contract: so many are left to pass behind each piece. Assumes nothing.
use Rattle.text_encoder.proofs.Drawn.{Passing}
use Rattle.text_encoder.proofs.walk.skipped.Given as goal

abbrev pub invariant-loop-left : goal.invariant-loop-left
invariant-loop-left l = Passing l.column l.initial.c l.n l.c l.left

abbrev pub decreases-loop-left : goal.decreases-loop-left
decreases-loop-left l = l.left
