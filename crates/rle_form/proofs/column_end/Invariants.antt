-- `rle_form::column_end` meets its contract: the ending at each run is the one of the column. Assumes nothing.
use Prim.Native.Nat.{◌-◌}
use mathlib.Core.Path.{◌≡◌}
use lib.ListN.{length}
use Rattle.encoding.specs.Column.{spot, trace_from, trace}
use Rattle.runs.specs.Values.{element_of}
use Rattle.rle_form.proofs.column_end.Given as goal

abbrev pub invariant-loop-next : goal.invariant-loop-next
invariant-loop-next l = (trace (element_of l.values).E l.s).ending ≡ (trace_from (element_of l.values).E l.s (spot l.at l.had)).ending

abbrev pub decreases-loop-next : goal.decreases-loop-next
decreases-loop-next l = length l.s - l.at
