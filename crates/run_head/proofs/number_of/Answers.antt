-- `run_head::number_of` meets its contract: eight bits fit into 64. Assumes nothing.
use Prim.Native.Nat.{◌≤◌}
use native.Mathlib.Omega.{arith}
use lib.IntN.{ℤ, pos, negsuc, nat_abs}
use mathlib.Core.Path.{refl}
use mir.Syntax.{w8, w64}
use mir.Val.{SFits}
use mir.ValLaws.{to_z-of_z}
use Rattle.leb128.proofs.Twos.{wider}
use Rattle.run_head.proofs.number_of.Goals as goal

-- how far eight bits reach from 0
reach : (x : ℤ) → SFits w8 x → nat_abs x ≤ 128
reach (pos n) f = let h = f.sfits in omega (arith, h)
reach (negsuc n) f = let h = f.sfits in omega (arith, h)

pub overflow_cast-result : goal.overflow_cast-result
overflow_cast-result c = rw (to_z-of_z w8 c.args.x c.ranges.x) (wider c.args.x c.ranges.x)

pub returns : goal.returns
returns c =
    rw (to_z-of_z w8 c.args.x c.ranges.x, to_z-of_z w64 c.args.x (wider c.args.x c.ranges.x))
    (refl, reach c.args.x c.ranges.x)
