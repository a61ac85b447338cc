-- `block_frame::put_bytes` meets its contract: the bytes from i on owe at their position what all owe at the start. Assumes nothing.
use Prim.Native.Nat.{◌+◌}
use mathlib.Core.Path.{refl, sym, ◌∙◌}
use native.Mathlib.Omega.{arith}
use lib.ListN.{get_or, length-set}
use Rattle.block_frame.proofs.Storing.{store-start, store-next, store-end}
use Rattle.block_frame.proofs.put_bytes.Goals as goal

pub loop-i-init : goal.loop-i-init
loop-i-init c = let a = c.args in (omega arith, refl, store-start a.out.now a.at a.src.now)

pub loop-i-preserved : goal.loop-i-preserved
loop-i-preserved c =
    let a = c.args in
    let l = c.loop-i in (
      omega arith,
      length-set l.out (a.at + l.i) (get_or a.src.now l.i 0) ∙ l.invariant.1,
      l.invariant.2 ∙ store-next l.out a.at l.i a.src.now c.loop-i-test.true,
    )

pub returns : goal.returns
returns c =
    let a = c.args in
    let l = c.loop-i in
    record { after = refl; bytes = sym (l.invariant.2 ∙ store-end l.out a.at l.i a.src.now (omega arith)) }
