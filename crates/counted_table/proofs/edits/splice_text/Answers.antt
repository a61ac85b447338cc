-- `counted_table::edits::splice_text` meets its contract: refused beside the lent table, or the edit with its count stored. Assumes nothing.
use mathlib.Core.Path.{refl}
use Rattle.refusal.proofs.Numbered.{some}
use Rattle.splice.specs.Kinds.{text}
use Rattle.splice.proofs.Numbered.{text-numbered}
use Rattle.counted_table.proofs.LentEdits.{text-few, text-refused, text-goes}
use Rattle.counted_table.proofs.edits.splice_text.Goals as goal

pub returns-in-Err : goal.returns-in-Err
returns-in-Err c =
    let a = c.args in
    text-refused text text-numbered a.block.now a.lent a.position a.start a.end a.bytes.now a.new_starts.now
    a.new_lens.now a.new_present.now a.starts.now a.lens.now a.present.now a.out.now c.in-Err.ensures (some c.in-Err.refusal.0) c.refused.ensures

pub answer-requires : goal.answer-requires
answer-requires c = text-few c.splice_text-r.ensures

pub returns : goal.returns
returns c =
    let a = c.args in
    let splice-text = c.splice_text-r in
    text-goes text text-numbered a.block.now a.lent a.position a.start a.end a.bytes.now a.new_starts.now
    a.new_lens.now a.new_present.now a.starts.now a.lens.now a.present.now a.out.now c.in-Ok.ensures refl
    splice-text.ensures c.answer.ensures
