-- `text_decoder::read_literals` meets its contract: the values read so far and those that can still be read are those that can be read of all. Assumes nothing.
use Prim.Native.Nat.{◌-◌}
use Rattle.encoding.proofs.Reading.{ReadSoFar}
use Rattle.text.specs.Text.{text_e}
use Rattle.text_decoder.proofs.read_literals.Given as goal

abbrev pub invariant-loop-read : goal.invariant-loop-read
invariant-loop-read l = ReadSoFar text_e l.s l.c l.q l.read l.at

abbrev pub decreases-loop-read : goal.decreases-loop-read
decreases-loop-read l = l.c - l.read
