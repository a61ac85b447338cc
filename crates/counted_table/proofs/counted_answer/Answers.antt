-- `counted_table::counted_answer` meets its contract. Assumes nothing.
use mathlib.Core.Path.{ap}
use Rattle.counted_table.specs.declared.CountedTable.{CountedTable}
use Rattle.counted_table.proofs.counted_answer.Goals as goal

pub returns : goal.returns
returns c = ap (λ (t : CountedTable). record { number = 0; place = 0; count = c.args.count; table = t }) c.store-t.ensures
