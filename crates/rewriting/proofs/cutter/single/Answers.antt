-- `rewriting::cutter::single` meets its contract: a value follows, or the literal stretch ends. Assumes nothing.
use Rattle.encoding.specs.Cases.{answer_of}
use Rattle.rewriting.proofs.Closing.{single-on, single-off}
use Rattle.rewriting.proofs.cutter.single.Goals as goal

pub returns-then-on : goal.returns-then-on
returns-then-on c =
    let a = c.args in
    single-on a.room a.on (answer_of a.used) a.literals a.size c.spent-all.ensures c.if-on.true

pub returns : goal.returns
returns c =
    let a = c.args in
    let e = c.spent-all.ensures in
    single-off a.room a.on (answer_of a.used) a.literals a.size e c.if-on.false c.literal_head.ensures c.spent.ensures
