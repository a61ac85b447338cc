-- `leb128_writer::group_of` meets its contract. Assumes nothing.
use native.Mathlib.Omega.{arith}
use Rattle.leb128_writer.proofs.group_of.Goals as goal

pub returns-then-neg : goal.returns-then-neg
returns-then-neg c = (rw c.if-neg.true, omega arith)
