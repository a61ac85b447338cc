-- `delta_decoder::added::only` meets its contract: by the bit. Assumes nothing.
use mathlib.Core.Path.{◌≡◌, ap, ◌∙◌}
use Prim.Native.Nat.{ℕ, ◌*◌, ◌≤◌}
use native.Mathlib.Nat.{mul-zero, mul-one}
use native.Mathlib.Decide.{dec_lt}
use native.Mathlib.Omega.{arith}
use Rattle.delta_decoder.proofs.added.only.Goals as goal

none : (x bit : ℕ) → bit ≡ 0 → x * bit ≡ 0
none x bit e = ap (λ (b : ℕ). x * b) e ∙ mul-zero x

all : (x bit : ℕ) → bit ≡ 1 → x * bit ≡ x
all x bit e = ap (λ (b : ℕ). x * b) e ∙ mul-one x

at_most : (x bit : ℕ) → bit ≤ 1 → x * bit ≤ x
at_most x bit l = elim (dec_lt bit 1) [
  | yes k ↦ omega (arith, none x bit (omega arith))
  | no k ↦ omega (arith, all x bit (omega arith))
]

pub overflow_mul-result : goal.overflow_mul-result
overflow_mul-result c = omega (arith, at_most c.args.x c.args.bit (omega arith))

pub returns : goal.returns
returns c = (at_most _ _ (omega arith), none _ _, all _ _)
