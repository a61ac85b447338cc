-- `splice::lent::any_bytes` meets its contract: by what is known of a slice that is lent. Assumes nothing.
use native.Mathlib.Omega.{arith}
use Rattle.splice.proofs.lent.any_bytes.Goals as goal

pub returns : goal.returns
returns c = record { bytes = λ i. omega (arith, c.shared_slice_known-1.given i); short = omega arith }
