-- `picture::scales::step_for` meets its contract: the step is looked for from the power that the loop has reached. Assumes nothing.
use native.Mathlib.Omega.{arith}
use Rattle.picture.proofs.Marks.{step_start, step-turn, step-one, step-two, step-five}
use borrow.Author.Rules.{rules}
use Rattle.picture.proofs.scales.step_for.Goals as goal

pub loop-p-init : goal.loop-p-init
loop-p-init c = step_start _ (omega arith) (omega arith)

pub loop-p-preserved : goal.loop-p-preserved
loop-p-preserved c = step-turn _ _ c.loop-p.invariant (search rules)

pub returns-then-need-p : goal.returns-then-need-p
returns-then-need-p c = omega (arith, step-one c.args.span _ c.loop-p.invariant (search rules))

pub returns-then-need-p-2 : goal.returns-then-need-p-2
returns-then-need-p-2 c =
    let loop = c.loop-p in
    omega (arith, step-two c.args.span _ loop.invariant (search rules) (search rules))

pub returns : goal.returns
returns c =
    let loop = c.loop-p in
    omega (arith, step-five c.args.span _ loop.invariant (search rules) (search rules))
