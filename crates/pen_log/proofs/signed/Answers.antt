-- `pen_log::signed` meets its contract: a number from 2^63 on is that of its complement, complemented. Assumes nothing.
use native.Mathlib.Omega.{arith}
use Rattle.pen_log.proofs.Bytes.{signed_low, signed_high}
use Rattle.pen_log.proofs.signed.Goals as goal

pub returns-then-n-lt-HALF : goal.returns-then-n-lt-HALF
returns-then-n-lt-HALF c = signed_low c.args.n (omega arith)

pub returns : goal.returns
returns c = signed_high c.args.n (omega arith) (omega arith)
