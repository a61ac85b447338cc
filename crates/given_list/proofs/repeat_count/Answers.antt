-- `given_list::repeat_count` meets its contract. Assumes nothing.
use native.Mathlib.Omega.{arith}
use Rattle.leb128.proofs.Twos.{up}
use Rattle.given_list.proofs.repeat_count.Goals as goal

pub returns : goal.returns
returns c = up c.args.n (omega arith)
