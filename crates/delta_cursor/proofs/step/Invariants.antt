-- `delta_cursor::step` meets its contract: 24; or what is ready from each state that is entered is what is ready from the first. Assumes nothing.
use Prim.Native.Nat.{◌-◌}
use mathlib.Core.Path.{◌≡◌}
use lib.ListN.{length}
use Rattle.cursor.specs.Cursor.{ready_at}
use Rattle.delta_decoder.specs.Difference.{i64_e}
use Rattle.delta_cursor.specs.Cases.{differences_of}
use Rattle.delta_cursor.proofs.step.Given as goal

abbrev pub invariant-loop-c : goal.invariant-loop-c
invariant-loop-c l = ready_at i64_e l.column (differences_of l.initial.c) ≡ ready_at i64_e l.column (differences_of l.c)

abbrev pub decreases-loop-c : goal.decreases-loop-c
decreases-loop-c l = length l.column - l.c.at
