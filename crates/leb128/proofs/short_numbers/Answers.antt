-- `leb128::short_numbers` meets its contract: the 256 entries are computed and compared, once. Assumes nothing.
use mathlib.Core.Path.{refl}
use Rattle.leb128.specs.Short.{short}
use Rattle.leb128.proofs.short_numbers.Goals as goal

pub returns : goal.returns
unfolding short
returns c = refl
