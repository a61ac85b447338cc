-- `counted_table::count` meets its contract: one law for each way out. Assumes nothing.
use mathlib.Core.Path.{refl, sym, ◌∙◌}
use native.Mathlib.Omega.{arith}
use Rattle.refusal.proofs.Numbered.{some}
use Rattle.column_part.proofs.Parts.{part_in_lem}
use Rattle.counted_table.proofs.Asking.{count-unlent, count-unplaced, count-given, count-refused}
use Rattle.counted_table.proofs.Lending.{lent-few}
use borrow.Author.Rules.{rules}
use Rattle.counted_table.proofs.count.Goals as goal

pub returns-in-Err : goal.returns-in-Err
returns-in-Err c =
    let a = c.args in
    c.uncounted_answer.ensures ∙ count-unlent a.lent a.block.now a.position c.in-Err.ensures (some c.in-Err.refusal.0)

pub returns-in-Err-locate : goal.returns-in-Err-locate
returns-in-Err-locate c =
    let a = c.args in
    c.uncounted_answer-in-Err-locate.ensures ∙ count-unplaced a.lent a.block.now a.position c.in-Ok.ensures refl c.in-Err-locate.ensures
    (some c.in-Err-locate.refusal.0)

pub overflow_add-p : goal.overflow_add-p
overflow_add-p c =
    let a = c.args in
    let h = part_in_lem a.block.now a.position _ c.in-Ok-locate.ensures in
    search (rules, h)

pub count_row-requires : goal.count_row-requires
count_row-requires c =
    let a = c.args in
    (omega arith, part_in_lem a.block.now a.position _ c.in-Ok-locate.ensures)

pub counted_answer-requires : goal.counted_answer-requires
counted_answer-requires c =
    let a = c.args in
    lent-few a.lent a.block.now c.in-Ok.ensures refl

pub returns-in-Ok-count_row : goal.returns-in-Ok-count_row
returns-in-Ok-count_row c =
    let a = c.args in
    let as-u8 = c.as_u8-typ in
    let col-type = c.col_type in
    let stored_at = c.stored_at in
    c.counted_answer.ensures ∙ count-given a.lent a.block.now a.position c.in-Ok.ensures refl c.in-Ok-locate.ensures refl
    (as-u8.ensures ∙ col-type.ensures) stored_at.ensures refl c.in-Ok-count_row.ensures

pub returns-in-Err-count_row : goal.returns-in-Err-count_row
returns-in-Err-count_row c =
    let a = c.args in
    let as-u8 = c.as_u8-typ in
    let col-type = c.col_type in
    let stored_at = c.stored_at in
    c.uncounted_answer-in-Err-count_row.ensures ∙ count-refused a.lent a.block.now a.position c.in-Ok.ensures refl c.in-Ok-locate.ensures
    refl (as-u8.ensures ∙ col-type.ensures) stored_at.ensures refl c.in-Err-count_row.ensures
