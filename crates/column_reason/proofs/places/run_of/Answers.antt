-- `column_reason::places::run_of` meets its contract: what is found from each run on is what is found from the first. Assumes nothing.
use mathlib.Core.Path.{refl, ◌∙◌, ap}
use native.Mathlib.Omega.{arith}
use lib.ListN.{length}
use Rattle.std.specs.Prelude.{Ok}
use Rattle.encoding.proofs.Via.{via}
use Rattle.runs.specs.Cases.{next_of}
use Rattle.reason.specs.Reason.{ends_here}
use Rattle.column_reason.proofs.Seeking.{spots, seek-within, seek-ends, seek-on}
use Rattle.column_reason.proofs.places.run_of.Goals as goal

pub loop-next-init : goal.loop-next-init
loop-next-init c = (omega arith, (length c.args.s.now, omega arith, refl))

pub returns-then-n-total : goal.returns-then-n-total
returns-then-n-total c =
    let a = c.args in
    let e = via next_of c.run_end.ensures (c.in-Ok-Some.is ∙ ap Ok c.in-Ok-Some.field-0-is) in
    seek-within (spots a.values a.s.now) _ _ _ c.loop-next.invariant.1 _ e c.if-n-total.true

pub overflow_add-run : goal.overflow_add-run
overflow_add-run c =
    let a = c.args in
    let e = via next_of c.run_end.ensures (c.in-Ok-Some.is ∙ ap Ok c.in-Ok-Some.field-0-is) in
    omega (arith, (spots a.values a.s.now).falls _ _ e, c.loop-next.invariant.0)

pub loop-next-smaller : goal.loop-next-smaller
loop-next-smaller c =
    let a = c.args in
    (spots a.values a.s.now).falls _ _ (via next_of c.run_end.ensures (c.in-Ok-Some.is ∙ ap Ok c.in-Ok-Some.field-0-is))

pub loop-next-preserved : goal.loop-next-preserved
loop-next-preserved c =
    let a = c.args in
    let M = spots a.values a.s.now in
    let e = via next_of c.run_end.ensures (c.in-Ok-Some.is ∙ ap Ok c.in-Ok-Some.field-0-is) in
    (omega (arith, M.falls _ _ e, c.loop-next.invariant.0), seek-on M _ _ _ c.loop-next.invariant.1 _ e c.if-n-total.false)

pub returns-in-Ok-None : goal.returns-in-Ok-None
returns-in-Ok-None c =
    let a = c.args in
    let e = via next_of c.run_end.ensures (c.in-Ok-None.is ∙ ap Ok c.in-Ok-None.field-0-is) in
    seek-ends (spots a.values a.s.now) _ _ _ c.loop-next.invariant.1 (ap ends_here e)

pub returns-in-Err : goal.returns-in-Err
returns-in-Err c =
    let a = c.args in
    seek-ends (spots a.values a.s.now) _ _ _ c.loop-next.invariant.1 (ap ends_here (via next_of c.run_end.ensures c.in-Err.is))
