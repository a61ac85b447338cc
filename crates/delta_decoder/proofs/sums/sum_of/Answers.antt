-- `delta_decoder::sums::sum_of` meets its contract: below 2^63 the sum is negative, and its bits are complemented. Assumes nothing.
use mathlib.Core.Path.{◌≡◌, sym, ◌∙◌, ap}
use Prim.Native.Nat.{suc, ◌-◌, ◌^◌}
use native.Mathlib.Omega.{arith}
use lib.IntN.{negsuc}
use Rattle.leb128.proofs.Twos.{up, down}
use Rattle.delta_decoder.proofs.Kept.{sum_low, sum-high}
use Rattle.delta_decoder.proofs.sums.sum_of.Goals as goal

pub returns-then-n-lt-HALF : goal.returns-then-n-lt-HALF
returns-then-n-lt-HALF c =
    let n = c.args.n in
    let e : 9223372036854775807 - n ≡ 2 ^ 63 - suc n = omega arith in
    down (9223372036854775807 - n) (omega arith) ∙ ap negsuc e ∙ sym (sum_low n c.if-n-lt-HALF.true)

pub returns : goal.returns
returns c = let n = c.args.n in up (n - 2 ^ 63) (omega arith) ∙ sym (sum-high n c.if-n-lt-HALF.false)
