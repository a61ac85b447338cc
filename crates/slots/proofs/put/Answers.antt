-- `slots::put` meets its contract: a turn stores one more of the new elements. Assumes nothing.
use borrow.Author.Rules.{rules}
use Prim.Native.Nat.{zero-le}
use native.Mathlib.Omega.{arith}
use lib.ListN.{length}
use Rattle.slots.proofs.Moves.{stored-none, stored-all, put-turn}
use Rattle.slots.proofs.put.Goals as goal

pub loop-i-init : goal.loop-i-init
loop-i-init g c = (zero-le, stored-none _ _ _)

pub loop-i-preserved : goal.loop-i-preserved
loop-i-preserved g c = (search rules, put-turn _ c.loop-i.invariant.1 (omega arith) (omega arith) c.index-new-i.is)

pub returns : goal.returns
returns g c = stored-all (length c.args.new.now) c.loop-i.invariant.1 (omega arith)
