-- `rle_decoder::scan_literal` meets its contract: what follows the values still to come is what follows them all. Assumes nothing.
use mathlib.Core.Path.{◌≡◌}
use Rattle.encoding.specs.Column.{literals}
use Rattle.rle_decoder.specs.Word.{u64_e}
use Rattle.rle_decoder.proofs.scan_literal.Given as goal

abbrev pub invariant-loop-left : goal.invariant-loop-left
invariant-loop-left l = (literals u64_e l.s l.total l.c l.q).next ≡ (literals u64_e l.s l.total l.left l.at).next

abbrev pub decreases-loop-left : goal.decreases-loop-left
decreases-loop-left l = l.left
