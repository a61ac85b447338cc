-- `counted_table::edits::splice_boolean` meets its contract: refused beside the lent table, or the edit with its count stored. Assumes nothing.
use Rattle.boolean_decoder.proofs.Faults.{boolean-numbered}
use mathlib.Core.Path.{refl}
use Rattle.refusal.proofs.Numbered.{some}
use Rattle.splice.specs.Kinds.{boolean}
use Rattle.counted_table.proofs.LentEdits.{boolean-few, boolean-refused, boolean-goes}
use Rattle.counted_table.proofs.edits.splice_boolean.Goals as goal

pub returns-in-Err : goal.returns-in-Err
returns-in-Err c =
    let a = c.args in
    boolean-refused boolean boolean-numbered a.block.now a.lent a.position a.start a.end a.new.now a.values.now a.out.now
    c.in-Err.ensures (some c.in-Err.refusal.0) c.refused.ensures

pub answer-requires : goal.answer-requires
answer-requires c = boolean-few c.splice_boolean-r.ensures

pub returns : goal.returns
returns c =
    let a = c.args in
    let splice-boolean = c.splice_boolean-r in
    boolean-goes boolean boolean-numbered a.block.now a.lent a.position a.start a.end a.new.now a.values.now a.out.now
    c.in-Ok.ensures refl splice-boolean.ensures c.answer.ensures
