-- `block_reason::block_reason` meets its contract: by what is told of the table. Assumes nothing.
use mathlib.Core.Path.{◌∙◌, ap}
use Rattle.block_reason.specs.Why.{of_block, block_reason}
use Rattle.block_reason.proofs.block_reason.Goals as goal

pub returns-in-Some : goal.returns-in-Some
unfolding block_reason
returns-in-Some c = ap (of_block _ _) c.in-Some.ensures

pub returns-in-None : goal.returns-in-None
unfolding block_reason
returns-in-None c = c.of_part.ensures ∙ ap (of_block _ _) c.in-None.ensures
