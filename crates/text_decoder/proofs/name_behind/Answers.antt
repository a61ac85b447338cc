-- `text_decoder::name_behind` meets its contract: one law for each way out. Assumes nothing.
use native.Mathlib.Omega.{arith}
use Rattle.text_decoder.proofs.Behind.{behind-cut, behind-found, behind-bad}
use Rattle.text_decoder.proofs.name_behind.Goals as goal

pub overflow_sub-left : goal.overflow_sub-left
overflow_sub-left c = omega arith

pub returns-then-left-n : goal.returns-then-left-n
returns-then-left-n c =
    let a = c.args in
    behind-cut a.s.now a.at a.n a.q (omega arith)

pub overflow_add-end : goal.overflow_add-end
overflow_add-end c = omega arith

pub slice_bounds-is_utf8-count : goal.slice_bounds-is_utf8-count
slice_bounds-is_utf8-count c = omega arith

pub returns-then-is_utf8 : goal.returns-then-is_utf8
returns-then-is_utf8 c =
    let a = c.args in
    behind-found a.s.now a.at a.n a.q (omega arith) c.is_utf8.ensures c.if-is_utf8.true

pub returns-else-is_utf8 : goal.returns-else-is_utf8
returns-else-is_utf8 c =
    let a = c.args in
    behind-bad a.s.now a.at a.n a.q (omega arith) c.is_utf8.ensures c.if-is_utf8.false
