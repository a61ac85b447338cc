-- `rewriting::cutter::literal_head` meets its contract: the count of some literal values is negative. Assumes nothing.
use native.Mathlib.Omega.{arith}
use Rattle.rewriting.proofs.Closing.{literal-head}
use Rattle.rewriting.proofs.cutter.literal_head.Goals as goal

pub returns : goal.returns
returns c = let r = c.literal_count in literal-head c.args.n (omega arith) r.ensures r.type_inv c.len_i64.ensures
