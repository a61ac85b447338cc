-- `rle_encoder::literal_end` meets its contract: up to j, the values equal no neighbour. Assumes nothing.
use Prim.Native.Nat.{◌-◌}
use lib.Dec.{eqb}
use lib.ListN.{length}
use Rattle.encoding.specs.Ahead.{LiteralTo}
use Rattle.rle_encoder.proofs.literal_end.Given as goal

abbrev pub invariant-loop-j : goal.invariant-loop-j
invariant-loop-j l = LiteralTo eqb 0 l.values l.present l.i l.j

abbrev pub decreases-loop-j : goal.decreases-loop-j
decreases-loop-j l = length l.values - l.j
