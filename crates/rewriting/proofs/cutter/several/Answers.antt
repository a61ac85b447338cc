-- `rewriting::cutter::several` meets its contract: the literal values, the count and the value are spent in a row. Assumes nothing.
use Rattle.encoding.specs.Cases.{answer_of}
use Rattle.rewriting.proofs.Closing.{several-shut}
use Rattle.rewriting.proofs.cutter.several.Goals as goal

pub returns : goal.returns
returns c =
    let a = c.args in
    let h = c.literal_head.ensures in
    let r = c.repeat_count in
    several-shut a.room (answer_of a.used) a.literals a.times a.size h c.spent-before.ensures r.ensures r.type_inv
    c.len_i64-count.ensures c.spent-begun.ensures c.spent.ensures
