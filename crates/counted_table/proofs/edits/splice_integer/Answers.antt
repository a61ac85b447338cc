-- `counted_table::edits::splice_integer` meets its contract: refused beside the lent table, or the edit with its count stored. Assumes nothing.
use mathlib.Core.Path.{refl}
use Rattle.refusal.proofs.Numbered.{some}
use Rattle.splice.specs.Kinds.{integer}
use Rattle.splice.proofs.Numbered.{integer-numbered}
use Rattle.counted_table.proofs.LentEdits.{optional-few, optional-refused, optional-goes}
use Rattle.counted_table.proofs.edits.splice_integer.Goals as goal

pub returns-in-Err : goal.returns-in-Err
returns-in-Err c =
    let a = c.args in
    optional-refused integer integer-numbered 0 a.block.now a.lent a.position a.start a.end a.new.now a.new_present.now
    a.values.now a.present.now a.out.now c.in-Err.ensures (some c.in-Err.refusal.0) c.refused.ensures

pub answer-requires : goal.answer-requires
answer-requires c = optional-few c.splice_integer-r.ensures

pub returns : goal.returns
returns c =
    let a = c.args in
    let splice-integer = c.splice_integer-r in
    optional-goes integer integer-numbered 0 a.block.now a.lent a.position a.start a.end a.new.now a.new_present.now
    a.values.now a.present.now a.out.now c.in-Ok.ensures refl splice-integer.ensures c.answer.ensures
