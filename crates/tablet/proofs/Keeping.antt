-- What is kept of a signed reading means that reading. Assumes nothing.
use mathlib.Core.Path.{◌≡◌, ◌∙◌, ap}
use Prim.Native.Nat.{ℕ, suc, ◌+◌, ◌-◌, ◌^◌, ◌<◌}
use native.Mathlib.Omega.{arith}
use lib.IntN.{pos, negsuc}
use Rattle.delta_decoder.specs.Sofar.{sum_of}
use Rattle.delta_decoder.proofs.Kept.{sum_low, sum-high}
use Rattle.tablet.specs.Kept.{kept_of}

pub meant-pos : (n : ℕ) → sum_of (kept_of (pos n)) ≡ pos n
unfolding kept_of
meant-pos n =
    let e : 2 ^ 63 + n - 2 ^ 63 ≡ n = omega arith in
    sum-high (2 ^ 63 + n) (omega arith) ∙ ap pos e

pub meant-neg : (n : ℕ) → n < 2 ^ 63 → sum_of (kept_of (negsuc n)) ≡ negsuc n
unfolding kept_of
meant-neg n h =
    let e : 2 ^ 63 - suc (2 ^ 63 - suc n) ≡ n = omega arith in
    sum_low (2 ^ 63 - suc n) (omega arith) ∙ ap negsuc e
