-- `tablet::kept::kept` meets its contract: by the number's sign. Assumes nothing.
use mathlib.Core.Path.{◌≡◌, sym, ◌∙◌, ap}
use native.Mathlib.Omega.{arith}
use Prim.Native.Nat.{suc, ◌-◌, ◌^◌}
use Rattle.delta_decoder.proofs.Kept.{neg_is, pos-is}
use Rattle.tablet.specs.Kept.{kept_of}
use Rattle.tablet.proofs.kept.kept.Goals as goal

pub returns-then-x-lt0 : goal.returns-then-x-lt0
unfolding kept_of
returns-then-x-lt0 c = let m = c.magnitude-m in
    let e : 9223372036854775807 - m.result ≡ 2 ^ 63 - suc m.result = omega arith in
    e ∙ sym (ap kept_of (neg_is c.args.x m.result c.ranges.x c.if-x-lt0.true m.ensures.0))

pub returns : goal.returns
unfolding kept_of
returns c = let m = c.magnitude-m in
    sym (ap kept_of (pos-is c.args.x m.result c.ranges.x c.if-x-lt0.false m.ensures.0))
