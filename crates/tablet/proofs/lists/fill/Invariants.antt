-- `tablet::lists::fill` is safe and ends. The measure is what is left of the text. Assumes nothing.
use Rattle.std.proofs.Common.{length}
use Rattle.tablet.proofs.lists.fill.Given as goal

abbrev pub decreases-loop-rest : goal.decreases-loop-rest
decreases-loop-rest l = length l.rest
