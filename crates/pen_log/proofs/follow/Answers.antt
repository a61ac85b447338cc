-- `pen_log::follow` meets its contract: behind each entry the slots hold the list after so many. Assumes nothing.
use mathlib.Core.Path.{◌≡◌}
use native.Mathlib.Omega.{arith}
use Rattle.leb128.specs.Got.{bad}
use Rattle.pen_log.specs.Entry.{entry_at}
use Rattle.pen_log.specs.Spans.{SpanOf}
use Rattle.pen_log.proofs.Following.{going_start, going-fits, going-further, going_on, going-read, going_done}
use Rattle.pen_log.proofs.follow.Goals as goal

pub loop-at-init : goal.loop-at-init
loop-at-init c = (c.requires.final, going_start c.requires)

pub apply-len-requires : goal.apply-len-requires
apply-len-requires c =
    let a = c.args in
    let o : SpanOf c.in-Ok.sp (entry_at a.log.now c.loop-at.at) = rw c.in-Ok.is at c.span_at.ensures in
    going-fits _ _ _ _ c.loop-at.invariant.1 (omega arith) o

pub loop-at-smaller : goal.loop-at-smaller
loop-at-smaller c =
    let a = c.args in
    let o : SpanOf c.in-Ok.sp (entry_at a.log.now c.loop-at.at) = rw c.in-Ok.is at c.span_at.ensures in
    let w = going-further _ _ _ _ c.loop-at.invariant.1 (omega arith) o in
    omega (arith, w)

pub loop-at-preserved : goal.loop-at-preserved
loop-at-preserved c =
    let a = c.args in
    let o : SpanOf c.in-Ok.sp (entry_at a.log.now c.loop-at.at) = rw c.in-Ok.is at c.span_at.ensures in
    (c.loop-at.invariant.0, going_on _ _ _ _ c.loop-at.invariant.1 (omega arith) o c.apply-len.ensures c.apply-len.auto.values c.apply-len.auto.present)

pub returns-in-Err : goal.returns-in-Err
returns-in-Err c =
    let a = c.args in
    let o : entry_at a.log.now c.loop-at.at ≡ bad _ _ = rw c.in-Err.is at c.span_at.ensures in
    absurd (going-read _ _ _ _ c.loop-at.invariant.1 (omega arith) o)

pub returns : goal.returns
returns c = going_done _ _ _ _ c.loop-at.invariant.1 (omega arith)
