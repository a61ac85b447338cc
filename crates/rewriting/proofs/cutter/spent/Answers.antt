-- `rewriting::cutter::spent` meets its contract: the sum is within the room, or past it, or was refused before. Assumes nothing.
use Prim.Native.Nat.{◌+◌, ◌<◌}
use mathlib.Core.Path.{ap}
use native.Mathlib.Omega.{arith}
use Rattle.encoding.specs.Cases.{answer_of}
use Rattle.rewriting.proofs.Closing.{spent-over, spent-within}
use Rattle.rewriting.proofs.cutter.spent.Goals as goal
use Rattle.rewriting.proofs.cutter.spent.Goals.{then-room-k-via-then-room-k, then-room-k-via-else-room-k+then-room-k-2}

pub returns-then-room-k : goal.returns-then-room-k
returns-then-room-k c =
    let l : c.args.room < c.in_ok-k.k + c.args.n =
    (elim c.then-room-k.branch [ then-room-k-via-then-room-k w ↦ omega arith | then-room-k-via-else-room-k+then-room-k-2 w ↦ omega arith ]) in
    spent-over _ _ _ _ (ap answer_of c.in_ok-k.was) l

pub returns : goal.returns
returns c = spent-within _ _ _ _ (ap answer_of c.in_ok-k.was) (omega arith)
