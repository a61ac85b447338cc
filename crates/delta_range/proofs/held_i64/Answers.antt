-- `delta_range::held_i64` meets its contract. Assumes nothing.
use mathlib.Core.Path.{◌∙◌}
use Rattle.leb128.proofs.Twos.{same}
use lib.IntN.{pos}
use Rattle.splice.proofs.Replacing.{held_none, held-some}
use Rattle.delta_range.proofs.held_i64.Goals as goal

pub returns-then-flag-eq0 : goal.returns-then-flag-eq0
returns-then-flag-eq0 c = held_none (pos 0) c.args.v c.args.flag c.if-flag-eq0.true

pub returns : goal.returns
returns c = same c.args.v c.ranges.v ∙ held-some (pos 0) c.args.v c.args.flag c.if-flag-eq0.false
