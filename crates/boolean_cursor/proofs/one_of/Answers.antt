-- `boolean_cursor::one_of` meets its contract. Assumes nothing.
use Rattle.boolean_cursor.proofs.Outs.{one_out}
use Rattle.boolean_cursor.proofs.one_of.Goals as goal

pub returns : goal.returns
returns c =
    let a = c.args in
    one_out a.lent a.c c.byte-flag.ensures
