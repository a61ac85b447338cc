-- `pieces::delta::kept_as` meets its contract: by the sum's sign. Assumes nothing.
use Prim.Native.Nat.{suc, ◌-◌, ◌+◌, ◌^◌}
use mathlib.Core.Path.{◌≡◌, sym, ◌∙◌, ap}
use native.Mathlib.Omega.{arith}
use lib.IntN.{pos, negsuc}
use Rattle.delta_decoder.proofs.Kept.{neg_is, pos-is, sum_low, sum-high}
use Rattle.pieces.proofs.delta.kept_as.Goals as goal

pub returns-then-z-lt0 : goal.returns-then-z-lt0
returns-then-z-lt0 c =
    let m = c.magnitude-m in
    let n = 2 ^ 63 - 1 - m.result in
    let e : 2 ^ 63 - suc n ≡ m.result = omega arith in
    sum_low n (omega arith) ∙ ap negsuc e ∙ sym (neg_is c.args.z m.result c.ranges.z c.if-z-lt0.true m.ensures.0)

pub returns : goal.returns
returns c =
    let m = c.magnitude-m in
    let e : 2 ^ 63 + m.result - 2 ^ 63 ≡ m.result = omega arith in
    sum-high (2 ^ 63 + m.result) (omega arith) ∙ ap pos e ∙ sym (pos-is c.args.z m.result c.ranges.z c.if-z-lt0.false m.ensures.0)
