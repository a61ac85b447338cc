-- `table_reason::told_rows` meets its contract: one law for each way out. Assumes nothing.
use mathlib.Core.Path.{◌∙◌}
use Rattle.table_reason.proofs.Telling.{rows_behind, rows-12, rows-13, rows-lengths}
use Rattle.table_reason.proofs.told_rows.Goals as goal

pub overflow_sub-before : goal.overflow_sub-before
overflow_sub-before c = rows_behind _ c.in-Some.ensures

pub returns-in-Some : goal.returns-in-Some
returns-in-Some c = c.told.ensures ∙ rows-12 _ c.in-Some.ensures c.args.size _ c.args.rows.next

pub returns-in-Some-first_compressed : goal.returns-in-Some-first_compressed
returns-in-Some-first_compressed c =
    c.told-in-Some-first_compressed.ensures ∙ rows-13 _ c.in_default.ensures c.args.size _ c.args.rows.next c.in-Some-first_compressed.ensures

pub returns : goal.returns
returns c =
    c.told_lengths.ensures ∙ rows-lengths _ c.in_default.ensures c.args.size _ c.args.rows.next c.in_default-first_compressed.ensures
