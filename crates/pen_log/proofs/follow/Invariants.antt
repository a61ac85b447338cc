-- `pen_log::follow` meets its contract: behind each entry the slots hold the list after so many. Assumes nothing.
use Prim.Native.Nat.{ℕ, ◌-◌}
use lib.ListN.{length}
use Rattle.pen_log.specs.Following.{list_in}
use Rattle.pen_log.proofs.Following.{Going}
use Rattle.pen_log.proofs.follow.Given as goal

abbrev pub invariant-loop-at : goal.invariant-loop-at
invariant-loop-at l = (final : ℕ) × Going l.log (list_in l.old l.initial.values l.initial.present) l.initial.values l.initial.present final l.values l.present l.at l.len

abbrev pub decreases-loop-at : goal.decreases-loop-at
decreases-loop-at l = length l.log - l.at
