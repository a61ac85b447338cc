-- `counted_table::open` meets its contract: the table as it is read. Assumes nothing.
use mathlib.Core.Path.{ap, ◌∙◌}
use Rattle.raw_column.specs.declared.TableAnswer.{TableAnswer}
use Rattle.counted_table.specs.Counts.{uncounted}
use Rattle.counted_table.proofs.open.Goals as goal

pub returns : goal.returns
returns c =
    ap (λ (o : TableAnswer). record { number = o.number; place = o.place; start = o.start; table = uncounted o.table })
    (c.from-o.ensures ∙ c.read_table.ensures)
