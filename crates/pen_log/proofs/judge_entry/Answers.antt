-- `pen_log::judge_entry` meets its contract: one law for each way out. Assumes nothing.
use mathlib.Core.Path.{◌≡◌, sym, ap, ◌∙◌}
use native.Mathlib.Omega.{arith}
use Rattle.std.proofs.lemmas.Result.{err_from_is_err_and}
use Rattle.pen_log.specs.Entry.{entry_at}
use Prim.Native.Nat.{◌+◌, ◌-◌}
use Rattle.leb128.specs.Got.{bad}
use Rattle.pen_log.specs.Lengths.{length_after, on, judged_at}
use Rattle.pen_log.specs.Spans.{SpanOf}
use Rattle.pen_log.proofs.Judging.{start-end, few-new, judged-23, judged-5, judged-9, judged-on}
use Rattle.pen_log.proofs.judge_entry.Goals as goal

pub returns-then-len-sp : goal.returns-then-len-sp
returns-then-len-sp c =
    let a = c.args in
    let o = c.in_ok-sp.ensures in
    judged-23 a.slots a.len a.at o.is (omega (arith, o.span.end))

pub overflow_add-n : goal.overflow_add-n
overflow_add-n c =
    let a = c.args in
    let o = c.in_ok-sp.ensures in
    omega (arith, o.span.start, o.span.end, o.span.many, start-end o.entry, few-new o.entry, c.requires)

pub overflow_add-n-2 : goal.overflow_add-n-2
overflow_add-n-2 c =
    let a = c.args in
    let o = c.in_ok-sp.ensures in
    omega (arith, o.span.start, o.span.end, o.span.many, start-end o.entry, few-new o.entry, c.requires)

pub returns-then-n : goal.returns-then-n
returns-then-n c =
    let a = c.args in
    let o = c.in_ok-sp.ensures in
    judged-5 a.slots a.len a.at o.is (omega (arith, o.span.end)) (omega (arith, o.span.start, o.span.end, o.span.many))

pub returns-then-slots-n : goal.returns-then-slots-n
returns-then-slots-n c =
    let a = c.args in
    let o = c.in_ok-sp.ensures in
    judged-9 a.slots a.len a.at o.is (omega (arith, o.span.end)) (omega (arith, o.span.start, o.span.end, o.span.many))
    (omega (arith, o.span.start, o.span.end, o.span.many))

pub returns : goal.returns
returns c =
    let a = c.args in
    let sp = c.in_ok-sp.sp in
    let o = c.in_ok-sp.ensures in
    let n : sp.start + sp.new + (a.len - sp.end) ≡ length_after o.entry a.len = omega (arith, o.span.start, o.span.end, o.span.many) in
    ap (on sp.next) n ∙ judged-on a.slots a.len a.at o.is (omega (arith, o.span.end)) (omega (arith, n)) (omega (arith, n))

pub returns-in_err-sp : goal.returns-in_err-sp
returns-in_err-sp c =
    let a = c.args in
    let p = err_from_is_err_and c.from_residual.result c.from_residual.ensures.1 in
    rw (p.1, p.2) (sym (ap (judged_at a.slots a.len a.at) c.in_err-sp.ensures))
