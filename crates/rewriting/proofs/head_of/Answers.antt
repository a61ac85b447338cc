-- `rewriting::head_of` meets its contract: the table that is lent is the fixed one. Assumes nothing.
use mathlib.Core.Path.{◌∙◌}
use Rattle.encoding.proofs.Heads.{head_fixed}
use Rattle.rewriting.proofs.head_of.Goals as goal

pub returns : goal.returns
returns c = c.head_by.ensures ∙ head_fixed _ _ _ c.requires
