-- `counted_table::typed::any_words` meets its contract: by what is known of a slice that is lent. Assumes nothing.
use native.Mathlib.Omega.{arith}
use Rattle.counted_table.proofs.typed.any_words.Goals as goal

pub returns : goal.returns
returns c = λ i. omega (arith, c.shared_slice_known-1.given i)
