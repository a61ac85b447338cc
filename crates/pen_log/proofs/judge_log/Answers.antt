-- `pen_log::judge_log` meets its contract: what is owed stays the same from entry to entry. Assumes nothing.
use mathlib.Core.Path.{refl, sym, ◌∙◌}
use native.Mathlib.Omega.{arith}
use Rattle.std.proofs.lemmas.Result.{err_from_is_err_and}
use Rattle.pen_log.proofs.Judging.{judge-on, judge-off, judge-end, judged-further}
use Rattle.pen_log.proofs.judge_log.Goals as goal

pub loop-at-init : goal.loop-at-init
loop-at-init c = (c.requires, refl)

pub judge_entry-requires : goal.judge_entry-requires
judge_entry-requires c = c.loop-at.invariant.0

pub loop-at-smaller : goal.loop-at-smaller
loop-at-smaller c =
    let a = c.args in
    let w = judged-further a.log.now a.slots c.loop-at.len c.loop-at.at c.in_ok-next.ensures in
    omega (arith, w)

pub loop-at-preserved : goal.loop-at-preserved
loop-at-preserved c =
    let a = c.args in
    let q = c.in_ok-next.ensures in
    ((judged-further a.log.now a.slots c.loop-at.len c.loop-at.at q).2, c.loop-at.invariant.1 ∙ judge-on a.log.now a.slots c.loop-at.len c.loop-at.at (omega arith) q)

pub returns-in_err-next : goal.returns-in_err-next
returns-in_err-next c =
    let a = c.args in
    let p = err_from_is_err_and c.from_residual.result c.from_residual.ensures.1 in
    rw (p.1, p.2) (sym (c.loop-at.invariant.1 ∙ judge-off a.log.now a.slots c.loop-at.len c.loop-at.at (omega arith) c.in_err-next.ensures))

pub returns : goal.returns
returns c =
    let a = c.args in
    sym (c.loop-at.invariant.1 ∙ judge-end a.log.now a.slots c.loop-at.len c.loop-at.at (omega arith))
