-- `slots::move_to` meets its contract: elements whose place stays the same are left. Assumes nothing.
use Rattle.slots.proofs.Moves.{stay}
use Rattle.slots.proofs.move_to.Goals as goal

pub returns-else-to-from : goal.returns-else-to-from
returns-else-to-from g c = stay _ _ _ _ c.if-to-from.false
