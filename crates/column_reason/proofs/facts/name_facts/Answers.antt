-- `column_reason::facts::name_facts` meets its contract: by the number. Assumes nothing.
use mathlib.Core.Path.{ap}
use borrow.Author.Tests.{ne_eqb}
use Rattle.refusal.specs.Number.{number_of}
use Rattle.refusal.specs.declared.Why.TheVariants as Why
use Rattle.refusal.proofs.Numbered.{one_why}
use Rattle.column_reason.proofs.facts.name_facts.Goals as goal

pub returns-in-Cut : goal.returns-in-Cut
returns-in-Cut c = rw (ap number_of c.in-Cut.is) c.named_at.ensures

pub returns-in-NotUtf8 : goal.returns-in-NotUtf8
returns-in-NotUtf8 c = rw (ap number_of c.in-NotUtf8.is) c.named_at-in-NotUtf8.ensures

pub returns-in_default : goal.returns-in_default
returns-in_default c =
    let w = c.args.refusal.0 in
    rw (ne_eqb _ 1 (λ e. c.in_default.not-Cut (one_why w Why.Cut e)), ne_eqb _ 20 (λ e. c.in_default.not-NotUtf8 (one_why w Why.NotUtf8 e))) c.plain_facts.ensures
