-- `boolean_form::turn_end` meets its contract: between two counts, what is owed from here is what was owed at the start. Assumes nothing.
use mathlib.Core.Logic.{inl, inr}
use mathlib.Core.Path.{sym}
use native.Mathlib.Omega.{arith}
use Rattle.leb128.proofs.Laws.{u64-next}
use Rattle.boolean_form.proofs.Ahead.{looked-bad, looked-many, looked-other, looked-on}
use Rattle.boolean_form.proofs.turn_end.Goals as goal
use Rattle.boolean_form.proofs.turn_end.Goals.{else-f-flag-via-then-f-flag+else-c-gt0, else-f-flag-via-else-f-flag}

pub returns-then-k-c : goal.returns-then-k-c
returns-then-k-c c =
    let a = c.args in
    let w = c.loop-c.invariant in
    let e = sym c.in-Ok.ensures in
    looked-many a.s.now a.at a.had a.flag w _ _ e (omega (arith, w.capped, c.if-k-c.true))

pub returns-then-c-gt0 : goal.returns-then-c-gt0
returns-then-c-gt0 c =
    let a = c.args in
    let w = c.loop-c.invariant in
    let e = sym c.in-Ok.ensures in
    looked-other a.s.now a.at a.had a.flag w _ _ e
    (omega (arith, w.capped, c.if-k-c.false)) c.if-f-flag.true c.if-c-gt0.true

pub loop-c-smaller : goal.loop-c-smaller
loop-c-smaller c =
    let k = u64-next c.args.s.now _ _ _ (sym c.in-Ok.ensures) in
    omega (arith, k.0, k.1)

pub loop-c-preserved : goal.loop-c-preserved
loop-c-preserved c =
    let a = c.args in
    let w = c.loop-c.invariant in
    let e = sym c.in-Ok.ensures in
    looked-on a.s.now a.at a.had a.flag w _ _ e
    (omega (arith, w.capped, c.if-k-c.false)) (elim c.else-f-flag.branch [
      | else-f-flag-via-then-f-flag+else-c-gt0 w ↦ inr w.if-c-gt0.false
      | else-f-flag-via-else-f-flag w ↦ inl w.if-f-flag.false
    ])

pub returns : goal.returns
returns c = let a = c.args in looked-bad a.s.now a.at a.had a.flag c.loop-c.invariant _ _ (sym c.in_default.ensures)
