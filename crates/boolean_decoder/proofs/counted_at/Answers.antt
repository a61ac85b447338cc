-- `boolean_decoder::counted_at` meets its contract: a count within the limit, or past it. Assumes nothing.
use mathlib.Core.Path.{sym}
use native.Mathlib.Omega.{arith}
use Rattle.encoding.proofs.Walking.{next-eq}
use Rattle.boolean_decoder.proofs.Turning.{counted-whole, counted-many}
use Rattle.boolean_decoder.proofs.counted_at.Goals as goal

pub returns-then-c-had : goal.returns-then-c-had
returns-then-c-had c = sym (next-eq (counted-whole _ _ _ (omega arith)))

pub returns-else-c-had : goal.returns-else-c-had
returns-else-c-had c = sym (next-eq (counted-many _ _ _ (omega arith)))
