-- `counted_table::typed::any_signed` meets its contract: by what is known of a number that is passed. Assumes nothing.
use Prim.Native.Nat.{◌^◌}
use borrow.Author.Tests.{lt-ltb}
use Rattle.leb128.proofs.Twos.{mag-half}
use Rattle.counted_table.proofs.typed.any_signed.Goals as goal

pub returns : goal.returns
returns c = lt-ltb _ (2 ^ 63) (mag-half _ c.ranges.word)
