-- `boolean_decoder::fill_same` meets its contract: what is still to be stored. Assumes nothing.
use Prim.Native.Nat.{◌-◌, ◌≤◌}
use mathlib.Core.Path.{◌≡◌}
use lib.ListN.{length, replicate}
use lib.Seq.{sets}
use Rattle.boolean_decoder.proofs.fill_same.Given as goal

abbrev pub invariant-loop-i : goal.invariant-loop-i
invariant-loop-i l = (l.i ≤ l.to) × (length l.values ≡ length l.initial.values) × (sets l.initial.values l.from (replicate (l.to - l.from) l.flag) ≡ sets l.values l.i (replicate (l.to - l.i) l.flag))

abbrev pub decreases-loop-i : goal.decreases-loop-i
decreases-loop-i l = l.to - l.i
