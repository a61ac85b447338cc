-- `text_encoder::sizes::sum` meets its contract: the sum is below 2^64 where the test says so. Assumes nothing.
use Prim.Native.Nat.{◌+◌}
use native.Mathlib.Omega.{arith}
use Rattle.encoding.proofs.Fits.{fit_is, fit-beyond}
use Rattle.text_encoder.proofs.sizes.sum.Goals as goal

pub returns-then-a-b : goal.returns-then-a-b
returns-then-a-b c = let a = c.args in fit_is (a.a + a.b) (omega (arith, c.if-a-b.true))

pub returns : goal.returns
returns c = let a = c.args in fit-beyond (a.a + a.b) (omega (arith, c.if-a-b.false))
