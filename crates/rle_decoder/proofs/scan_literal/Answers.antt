-- `rle_decoder::scan_literal` meets its contract: what follows the values still to come is what follows them all. Assumes nothing.
use mathlib.Core.Path.{sym, ◌∙◌}
use native.Mathlib.Omega.{arith}
use Rattle.leb128.proofs.Laws.{end_on, end-off}
use Rattle.encoding.proofs.Walking.{next-eq}
use Rattle.encoding.proofs.Columns.{literals-on, literals-off, literals-none, repeated-bad}
use Rattle.rle_decoder.specs.Word.{u64_e}
use Rattle.rle_decoder.proofs.scan_literal.Goals as goal

pub overflow_sub-left : goal.overflow_sub-left
overflow_sub-left c = omega arith

pub overflow_sub-left-2 : goal.overflow_sub-left-2
overflow_sub-left-2 c = omega arith

pub loop-left-init : goal.loop-left-init
loop-left-init c = c.skip_short-at.ensures.2 _

pub returns-then-next-eq0 : goal.returns-then-next-eq0
returns-then-next-eq0 c =
    let f = end-off _ c.loop-left.at _ c.end_u64-next.ensures c.if-next-eq0.true in
    let e = literals-off u64_e _ _ _ _ _ _ c.loop-left-test.true f.read in
    c.scan_repeat.ensures ∙ next-eq (repeated-bad _ _ _ _ _ _ f.read) ∙ sym (c.loop-left.invariant ∙ next-eq e)

pub overflow_sub-left-in-loop-left : goal.overflow_sub-left-in-loop-left
overflow_sub-left-in-loop-left c = omega arith

pub loop-left-smaller : goal.loop-left-smaller
loop-left-smaller c = omega arith

pub loop-left-preserved : goal.loop-left-preserved
loop-left-preserved c =
    let g = end_on _ _ c.end_u64-next.ensures c.if-next-eq0.false in
    let e = literals-on u64_e _ _ _ _ _ _ c.loop-left-test.true g.read in
    c.loop-left.invariant ∙ next-eq e

pub returns : goal.returns
returns c = sym (c.loop-left.invariant ∙ next-eq (literals-none u64_e _ _ _ _ c.loop-left-test.false))
