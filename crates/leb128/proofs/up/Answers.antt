-- `leb128::up` meets its contract: below 2^63 the number is itself. Assumes nothing.
use Rattle.leb128.proofs.Twos.{up}
use Rattle.leb128.proofs.up.Goals as goal

pub returns : goal.returns
returns c = up c.args.n c.requires
