-- `picture::stretches::nothing` meets its contract. Assumes nothing.
use mathlib.Core.Path.{sym}
use Rattle.picture.proofs.Ranges.{nothing_known}
use Rattle.picture.proofs.stretches.nothing.Goals as goal

pub returns : goal.returns
returns c = sym nothing_known
