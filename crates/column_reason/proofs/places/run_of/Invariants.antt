-- `column_reason::places::run_of` meets its contract: what is found from each run on is what is found from the first. Assumes nothing.
use Prim.Native.Nat.{◌-◌, ◌≤◌}
use lib.ListN.{length}
use Rattle.encoding.specs.Column.{Spot, spot}
use Rattle.runs.specs.Values.{element_of}
use Rattle.reason.specs.Reason.{holding, spots_of}
use Rattle.column_reason.proofs.Seeking.{spots, Seeking}
use Rattle.column_reason.proofs.places.run_of.Given as goal

abbrev pub invariant-loop-next : goal.invariant-loop-next
invariant-loop-next l = (l.run ≤ l.at) × Seeking (spots l.values l.s) l.n (holding (λ (st : Spot). st.had) l.n 0 (spots_of (element_of l.values).E l.s)) l.run (spot l.at l.had)

abbrev pub decreases-loop-next : goal.decreases-loop-next
decreases-loop-next l = length l.s - l.at
