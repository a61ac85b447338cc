-- `rewriting::cutter::finished` meets its contract: a value came, and the held reading is closed; or none came. Assumes nothing.
use Rattle.rewriting.proofs.Closing.{finished-some, finished-none}
use Rattle.rewriting.proofs.cutter.finished.Goals as goal

pub returns-then-c : goal.returns-then-c
returns-then-c c = let a = c.args in finished-some a.s.now a.room a.c c.if-c.true c.closed-d.ensures.result_value

pub returns : goal.returns
returns c = let a = c.args in finished-none a.s.now a.room a.c c.if-c.false
