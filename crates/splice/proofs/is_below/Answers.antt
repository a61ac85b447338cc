-- `splice::is_below` meets its contract: one case each. Assumes nothing.
use mathlib.Core.Path.{sym, ap}
use Rattle.splice.specs.Edit.{below}
use Rattle.splice.proofs.is_below.Goals as goal

pub returns-in-At : goal.returns-in-At
returns-in-At c = sym (ap (below c.args.start) c.in-At.is)
