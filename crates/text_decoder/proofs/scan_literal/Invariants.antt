-- `text_decoder::scan_literal` meets its contract: what follows the values still to come is what follows them all. Assumes nothing.
use mathlib.Core.Path.{◌≡◌}
use Rattle.encoding.specs.Column.{literals}
use Rattle.text.specs.Text.{text_e}
use Rattle.text_decoder.proofs.scan_literal.Given as goal

abbrev pub invariant-loop-left : goal.invariant-loop-left
invariant-loop-left l = (literals text_e l.s l.total l.c l.q).next ≡ (literals text_e l.s l.total l.left l.at).next

abbrev pub decreases-loop-left : goal.decreases-loop-left
decreases-loop-left l = l.left
