-- `count_place::compare_encoded` meets its contract: what is left of the encoding, beside the bytes here, is judged as the whole. Assumes nothing.
use mathlib.Core.Path.{◌≡◌}
use Prim.Native.Nat.{◌^◌, ◌<◌}
use lib.ListN.{drop}
use Rattle.leb128.specs.Write.{encoded}
use Rattle.count_place.specs.Place.{standing}
use Rattle.count_place.proofs.compare_encoded.Given as goal

abbrev pub invariant-loop-w : goal.invariant-loop-w
invariant-loop-w l = (l.w < 2 ^ 64) × (standing l.at (drop l.at l.s) (encoded l.limit l.neg l.v) ≡ standing l.i (drop l.i l.s) (encoded l.limit l.neg l.w))

abbrev pub decreases-loop-w : goal.decreases-loop-w
decreases-loop-w l = l.w
