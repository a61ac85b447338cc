-- `table_reason::told_table` meets its contract: one law for each way out. Assumes nothing.
use mathlib.Core.Path.{◌∙◌}
use Rattle.table_reason.proofs.Telling.{table-unread, table-rows, table-next}
use Rattle.table_reason.proofs.told_table.Goals as goal

pub returns-in-Err : goal.returns-in-Err
returns-in-Err c = c.told_unread.ensures ∙ table-unread c.in-Err.ensures

pub told_rows-requires : goal.told_rows-requires
told_rows-requires c = (c.requires.0, table-next c.in-Ok.ensures c.requires.1)

pub returns-in-Ok : goal.returns-in-Ok
returns-in-Ok c = c.told_rows.ensures ∙ table-rows c.in-Ok.ensures
