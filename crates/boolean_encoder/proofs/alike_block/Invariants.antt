-- `boolean_encoder::alike_block` meets its contract: where no byte before k + j differs, the end owed there is the end owed at k. Assumes nothing.
use Prim.Native.Nat.{◌+◌, ◌-◌, ◌≤◌}
use mathlib.Core.Path.{◌≡◌}
use lib.ListN.{drop}
use Rattle.boolean_encoder.specs.Ahead.{alike}
use Rattle.boolean_encoder.proofs.alike_block.Given as goal

abbrev pub invariant-loop-j : goal.invariant-loop-j
invariant-loop-j l = (l.j ≤ 32) × (l.other ≡ 0 → l.k + alike l.flag (drop l.k l.values) ≡ l.k + l.j + alike l.flag (drop (l.k + l.j) l.values))

abbrev pub decreases-loop-j : goal.decreases-loop-j
decreases-loop-j l = 32 - l.j
