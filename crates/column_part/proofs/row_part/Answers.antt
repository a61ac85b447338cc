-- `column_part::row_part` meets its contract: the start that the table keeps is the sum of the lengths before. Assumes nothing.
use lib.Seq.{get_or-take}
use Rattle.column_part.proofs.row_part.Goals as goal

pub returns : goal.returns
returns c =
    let p = c.requires in
    let t = c.args.o.now.table in
    let i = c.args.i in
    rw (p.3, get_or-take t.rows t.lens i 0 p.0, get_or-take t.rows t.specs i 0 p.0)
