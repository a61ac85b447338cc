-- `boolean_encoder::ended_len` meets its contract: a count below 128 takes one byte. Assumes nothing.
use Prim.Native.Nat.{ℕ}
use mathlib.Core.Path.{◌≡◌, ap}
use mathlib.Core.Bool.{false}
use native.Mathlib.Omega.{arith}
use lib.ListN.{length}
use Rattle.leb128.proofs.Encoded.{encoded-last}
use Rattle.boolean_encoder.proofs.Counting.{ten-most}
use Rattle.boolean_encoder.proofs.ended_len.Goals as goal
use Rattle.boolean_encoder.proofs.ended_len.Goals.{else-ends, then-ends}

pub returns-then-ends-2 : goal.returns-then-ends-2
returns-then-ends-2 c =
    (λ e. c.len_u64-size.ensures, λ e. let z : ◌≡◌ {A = ℕ} 0 1 = cc in absurd (omega arith), ten-most _ _ c.len_u64-size.ensures)

pub returns-else-ends-2 : goal.returns-else-ends-2
returns-else-ends-2 c = (
  λ e. let z : ◌≡◌ {A = ℕ} 0 1 = cc in absurd (omega arith),
  λ e. (elim c.if-ends.branch [ then-ends w ↦ let z : ◌≡◌ {A = ℕ} 0 1 = cc in absurd (omega arith) | else-ends w ↦ omega arith ]),
  (elim c.if-ends.branch [ then-ends w ↦ omega arith | else-ends w ↦ omega arith ]),
)

pub returns-else-run-ge128 : goal.returns-else-run-ge128
returns-else-run-ge128 c = (
  λ e.
      (elim c.if-ends.branch [ then-ends w ↦ omega (arith, ap length (encoded-last 128 false _ c.if-run-ge128.false)) | else-ends w ↦ let z : ◌≡◌ {A = ℕ} 0 1 = cc in absurd (omega arith) ]),
  λ e. (elim c.if-ends.branch [ then-ends w ↦ let z : ◌≡◌ {A = ℕ} 0 1 = cc in absurd (omega arith) | else-ends w ↦ omega arith ]),
  (elim c.if-ends.branch [ then-ends w ↦ omega arith | else-ends w ↦ omega arith ]),
)
