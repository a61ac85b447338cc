-- `delta_decoder::added::near_bytes` meets its contract: the first byte stands alone, or the second is the last one. Assumes nothing.
use native.Mathlib.Omega.{arith}
use Rattle.delta_decoder.proofs.Adding.{over-byte, near-room, near-is}
use Rattle.delta_decoder.proofs.added.near_bytes.Goals as goal

pub overflow_add-up : goal.overflow_add-up
overflow_add-up c = omega (arith, c.requires, over-byte c.args.b, c.only-2.ensures)

pub overflow_add-up-2 : goal.overflow_add-up-2
overflow_add-up-2 c = omega (arith, c.requires, over-byte c.args.b, c.only-2.ensures)

pub overflow_add-result : goal.overflow_add-result
overflow_add-result c =
    omega (arith, c.requires, over-byte c.args.b, c.only-2.ensures)

pub overflow_sub-result : goal.overflow_sub-result
overflow_sub-result c =
    near-room c.args.n c.args.b c.args.d c.args.e _ _ _ (omega arith) (omega arith) c.requires.e_value
    c.only-high.ensures c.only-2.ensures c.only-3.ensures (omega arith)

pub returns : goal.returns
returns c =
    near-is c.args.n c.args.b c.args.d c.args.e _ _ _ (omega arith) (omega arith) c.requires.e_value
    c.only-high.ensures c.only-2.ensures c.only-3.ensures (omega arith)
    c.args.behind _ c.only.ensures c.if-d-only.false
