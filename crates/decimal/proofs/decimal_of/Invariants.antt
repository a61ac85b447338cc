-- `decimal::decimal_of` meets its contract: the digits that are left are owed behind those that were read. Assumes nothing.
use Rattle.std.proofs.Common.{◌≡◌, drop}
use Rattle.decimal.specs.Text.{behind, decimal_of}
use Rattle.decimal.proofs.decimal_of.Given as goal

abbrev pub invariant-loop-b : goal.invariant-loop-b
invariant-loop-b l = decimal_of l.s ≡ behind l.value (drop l.b-index l.s)
