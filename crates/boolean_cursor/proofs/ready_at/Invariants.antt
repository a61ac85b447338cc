-- `boolean_cursor::ready_at` meets its contract: what is ready from each state that is entered is what is ready from the first. Assumes nothing.
use Prim.Native.Nat.{◌-◌}
use mathlib.Core.Path.{◌≡◌}
use lib.ListN.{length}
use Rattle.boolean_cursor.specs.State.{cursor_of}
use Rattle.boolean_cursor.specs.TurnCursor.{turn_ready}
use Rattle.boolean_cursor.proofs.ready_at.Given as goal

abbrev pub invariant-loop-c : goal.invariant-loop-c
invariant-loop-c l = turn_ready l.column (cursor_of l.fn.cursor) ≡ turn_ready l.column (cursor_of l.c)

abbrev pub decreases-loop-c : goal.decreases-loop-c
decreases-loop-c l = length l.column - l.c.at
