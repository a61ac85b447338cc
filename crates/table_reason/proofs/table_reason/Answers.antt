-- `table_reason::table_reason` meets its contract: one law for each way out, of the number that was read. Assumes nothing.
use mathlib.Core.Path.{sym, ◌∙◌}
use Rattle.leb128.proofs.Laws.{u64-next}
use Rattle.table_reason.proofs.Telling.{reason-bad, reason-11, reason-rows}
use Rattle.table_reason.proofs.table_reason.Goals as goal

pub returns-then-value-gt64 : goal.returns-then-value-gt64
returns-then-value-gt64 c = c.told.ensures ∙ reason-11 _ (sym c.in-Ok.ensures) c.if-value-gt64.true

pub told_table-requires : goal.told_table-requires
told_table-requires c = (c.if-value-gt64.false, (u64-next _ _ _ _ (sym c.in-Ok.ensures)).1)

pub returns-in-Err : goal.returns-in-Err
returns-in-Err c = c.told_unread.ensures ∙ reason-bad _ (sym c.in-Err.ensures)

pub returns-else-value-gt64 : goal.returns-else-value-gt64
returns-else-value-gt64 c = c.told_table.ensures ∙ reason-rows _ (sym c.in-Ok.ensures) c.if-value-gt64.false
