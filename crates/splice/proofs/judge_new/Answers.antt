-- `splice::judge_new` meets its contract: what `judge_list` says, but for 5. Assumes nothing.
use mathlib.Core.Path.{ap}
use Rattle.encoding.specs.Cases.{answer_of}
use Rattle.encoding.proofs.Via.{via}
use Rattle.refusal.specs.Number.{number_of}
use Rattle.refusal.specs.declared.Why.TheVariants as Why
use Rattle.refusal.proofs.Numbered.{one_why}
use Rattle.splice.proofs.Planning.{given-uneven, given-done, given-many, given-bad}
use Rattle.splice.proofs.judge_new.Goals as goal

pub returns-then-values-present : goal.returns-then-values-present
returns-then-values-present c = given-uneven _ _ _ _ c.if-values-present.true

pub returns-in-Ok : goal.returns-in-Ok
returns-in-Ok c =
    given-done _ _ _ _ c.if-values-present.false (via answer_of c.judge_list.ensures c.in-Ok.is)

pub returns-in-TooMany : goal.returns-in-TooMany
returns-in-TooMany c =
    given-many _ _ _ _ c.if-values-present.false (via answer_of c.judge_list.ensures c.in-Err.is) (ap number_of c.in-TooMany.is)

pub returns-in_default : goal.returns-in_default
returns-in_default c =
    given-bad _ _ _ _ c.if-values-present.false (via answer_of c.judge_list.ensures c.in-Err.is) (λ e. c.in_default.not-TooMany (one_why c.in-Err.field-0.0 Why.TooMany e))
