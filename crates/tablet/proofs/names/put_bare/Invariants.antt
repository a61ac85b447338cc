-- `tablet::names::put_bare` is safe and ends. The measure is what is left of the text. Assumes nothing.
use Rattle.std.proofs.Common.{◌≡◌, length}
use Rattle.tablet.proofs.names.put_bare.Given as goal

abbrev pub invariant-loop-rest : goal.invariant-loop-rest
invariant-loop-rest l = length l.out ≡ length l.initial.out

abbrev pub decreases-loop-rest : goal.decreases-loop-rest
decreases-loop-rest l = length l.rest
