-- `rewriting::cutter::absent_run` meets its contract: a 0 and a count, each of ten bytes at most. Assumes nothing.
use native.Mathlib.Omega.{arith}
use Rattle.rewriting.proofs.Closing.{absent-run, absent-short}
use Rattle.rewriting.proofs.cutter.absent_run.Goals as goal

pub overflow_add-result : goal.overflow_add-result
overflow_add-result c = let k = absent-short c.args.n c.len_i64.ensures c.len_u64.ensures in omega arith

pub returns : goal.returns
returns c = absent-run c.args.n (omega arith) c.len_i64.ensures c.len_u64.ensures
