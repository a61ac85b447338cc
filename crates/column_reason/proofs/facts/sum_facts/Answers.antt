-- `column_reason::facts::sum_facts` meets its contract: by the number. Assumes nothing.
use mathlib.Core.Path.{refl, ◌∙◌, ap}
use mir.Syntax.{w64}
use mir.Val.{SFits}
use borrow.Author.Rules.{rules}
use borrow.Author.Tests.{ne_eqb}
use Rattle.refusal.specs.Number.{number_of}
use Rattle.refusal.specs.declared.Why.TheVariants as Why
use Rattle.refusal.proofs.Numbered.{one_why}
use Rattle.leb128.proofs.Twos.{same}
use Rattle.column_reason.proofs.facts.sum_facts.Goals as goal

pub returns-in-SumOutside : goal.returns-in-SumOutside
returns-in-SumOutside c =
    let z = c.last_sum.result in
    let d = c.delta_at.result in
    let f : SFits w64 z = search rules in
    let g : SFits w64 d = search rules in
    rw (ap number_of c.in-SumOutside.is) (rw (same z f ∙ c.last_sum.ensures, same d g ∙ c.delta_at.ensures) refl)

pub returns-in_default : goal.returns-in_default
returns-in_default c = rw (ne_eqb _ 6 (λ e. c.in_default.not-SumOutside (one_why c.args.refusal.0 Why.SumOutside e))) c.plain_facts.ensures
