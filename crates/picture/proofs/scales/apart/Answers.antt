-- `picture::scales::apart` meets its contract. Assumes nothing.
use native.Mathlib.Omega.{arith}
use Rattle.picture.proofs.scales.apart.Goals as goal

pub returns-then-low-high : goal.returns-then-low-high
returns-then-low-high c = omega arith

pub returns : goal.returns
returns c = omega arith
