-- `rle_form::any_value` meets its contract: a piece that is absent is passed whole. Assumes nothing.
use mathlib.Core.Path.{◌≡◌}
use lib.ListN.{length}
use Rattle.encoding.specs.Writer.{any_present}
use Rattle.runs.specs.Values.{element_of}
use Rattle.runs.specs.Pieces.{list_of, Going}
use Rattle.rle_form.proofs.any_value.Given as goal

abbrev pub invariant-loop-p : goal.invariant-loop-p
invariant-loop-p l = Going (element_of l.values).E l.s l.p × (any_present (list_of (element_of l.values).E l.s l.initial.p) ≡ any_present (list_of (element_of l.values).E l.s l.p))

abbrev pub decreases-loop-p : goal.decreases-loop-p
decreases-loop-p l = length (list_of (element_of l.values).E l.s l.p)
