-- `rle_form::compare_stretches` meets its contract: what is left differs where the whole does. Assumes nothing.
use Prim.Native.Nat.{◌-◌}
use mathlib.Core.Path.{◌≡◌}
use lib.ListN.{length, drop}
use Rattle.own_form.specs.Difference.{differ_at}
use Rattle.runs.specs.Values.{element_of}
use Rattle.rle_form.specs.Turns.{Sound, stretched_from}
use Rattle.rle_form.proofs.compare_stretches.Given as goal

abbrev pub invariant-loop-at : goal.invariant-loop-at
invariant-loop-at l = Sound (element_of l.values).E l.s l.at l.had
    × (differ_at 0 l.s (stretched_from (element_of l.values).E l.s 0 0) ≡ differ_at l.at (drop l.at l.s) (stretched_from (element_of l.values).E l.s l.at l.had))

abbrev pub decreases-loop-at : goal.decreases-loop-at
decreases-loop-at l = length l.s - l.at
