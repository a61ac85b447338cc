-- `given_list::literal_count` meets its contract: -n is the complement of n - 1. Assumes nothing.
use Prim.Native.Nat.{◌-◌}
use mathlib.Core.Path.{◌∙◌}
use native.Mathlib.Omega.{arith}
use Rattle.leb128.proofs.Twos.{down}
use Rattle.encoding.specs.Flags.{minus}
use Rattle.encoding.proofs.Putting.{minus-some}
use Rattle.given_list.proofs.literal_count.Goals as goal

pub returns-then-n-eq0 : goal.returns-then-n-eq0
unfolding minus
returns-then-n-eq0 c = rw c.if-n-eq0.true

pub returns : goal.returns
returns c = let n = c.args.n in down (n - 1) (omega arith) ∙ minus-some n (omega arith)
