-- `utf8::is_utf8` meets its contract: the bytes from here on go on as is due exactly where all are UTF-8. Assumes nothing.
use Rattle.std.proofs.Common.{◌≡◌, drop}
use Rattle.utf8.specs.Utf8.{goes_on, is_utf8}
use Rattle.utf8.specs.Due.{ranges_of}
use Rattle.utf8.proofs.is_utf8.Given as goal

abbrev pub invariant-loop-b : goal.invariant-loop-b
invariant-loop-b l = is_utf8 l.s ≡ goes_on (ranges_of l.due) (drop l.b-index l.s)
