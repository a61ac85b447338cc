-- `splice::end_in` meets its contract: one case each. Assumes nothing.
use mathlib.Core.Path.{sym, ap}
use Rattle.splice.specs.declared.End.{End}
use Rattle.splice.specs.Edit.{end_in}
use Rattle.splice.proofs.end_in.Goals as goal

pub returns-in-At : goal.returns-in-At
returns-in-At c = sym (ap (λ (e : End). end_in e c.args.old) c.in-At.is)
