-- `leb128::down` meets its contract: the complement of n is -(n + 1). Assumes nothing.
use Rattle.leb128.proofs.Twos.{down}
use Rattle.leb128.proofs.down.Goals as goal

pub returns : goal.returns
returns c = down c.args.n c.requires
