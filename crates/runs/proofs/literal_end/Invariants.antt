-- `runs::literal_end` meets its contract: what follows the values still to come is what follows them all. Assumes nothing.
use Prim.Native.Nat.{◌-◌}
use mathlib.Core.Path.{◌≡◌}
use Rattle.encoding.specs.Column.{literals}
use Rattle.runs.specs.Values.{element_of}
use Rattle.runs.proofs.literal_end.Given as goal

abbrev pub invariant-loop : goal.invariant-loop
invariant-loop l = (literals (element_of l.values).E l.s l.total l.c l.q).next ≡ (literals (element_of l.values).E l.s l.total (l.c - l.counter) l.at).next
