-- `count_place::compare_byte` meets its contract: the byte stands there, another does, or none. Assumes nothing.
use Rattle.count_place.proofs.Placing.{byte-stands, byte-differs, byte-none}
use Rattle.count_place.proofs.compare_byte.Goals as goal

pub returns-then-s-at : goal.returns-then-s-at
returns-then-s-at c = let a = c.args in byte-stands a.s.now a.at a.b c.if-at-s.true c.if-s-at.true

pub returns-else-s-at : goal.returns-else-s-at
returns-else-s-at c = let a = c.args in byte-differs a.s.now a.at a.b c.if-at-s.true c.if-s-at.false

pub returns-else-at-s : goal.returns-else-at-s
returns-else-at-s c = let a = c.args in byte-none a.s.now a.at a.b c.if-at-s.false
