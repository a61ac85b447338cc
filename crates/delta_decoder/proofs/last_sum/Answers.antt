-- `delta_decoder::last_sum` meets its contract: the readings from each run on lead to the sum that all lead to. Assumes nothing.
use mathlib.Core.Path.{◌∙◌}
use native.Mathlib.Omega.{arith}
use mir.Syntax.{w64}
use mir.Val.{SFits}
use borrow.Author.Rules.{rules}
use Rattle.leb128.proofs.Twos.{same}
use Rattle.encoding.proofs.Via.{via}
use Rattle.delta_decoder.specs.Cases.{step_of}
use Rattle.delta_decoder.proofs.Deltas.{deltas}
use Rattle.delta_decoder.proofs.LastSum.{leading-start, leading-on, leading-off, leading_end}
use Rattle.delta_decoder.proofs.last_sum.Goals as goal

pub loop-at-init : goal.loop-at-init
loop-at-init c = (omega arith, leading-start _)

pub scan_run-requires : goal.scan_run-requires
scan_run-requires c = record { at_in_bounds = search rules; table_value = c.short_numbers-table.ensures }

pub loop-at-smaller : goal.loop-at-smaller
loop-at-smaller c = (deltas _).falls _ _ (via step_of c.scan_run.ensures c.in-Ok.is)

pub loop-at-preserved : goal.loop-at-preserved
loop-at-preserved c =
    let e = via step_of c.scan_run.ensures c.in-Ok.is in
    ((deltas _).capped _ _ e, leading-on _ _ c.loop-at.invariant.1 _ e)

pub returns-in_default : goal.returns-in_default
returns-in_default c =
    let e = via step_of c.scan_run.ensures c.in_default.is in
    let f : SFits w64 c.sum_of.result = search rules in
    same c.sum_of.result f ∙ c.sum_of.ensures ∙ c.run_sum.ensures ∙ leading-off _ _ c.loop-at.invariant.1 _ _ e

pub returns : goal.returns
returns c =
    let f : SFits w64 c.sum_of-2.result = search rules in
    same c.sum_of-2.result f ∙ c.sum_of-2.ensures ∙ leading_end _ _ c.loop-at.invariant.1 c.loop-at-test.false
