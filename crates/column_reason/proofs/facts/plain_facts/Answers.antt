-- `column_reason::facts::plain_facts` meets its contract: by the number. Assumes nothing.
use mathlib.Core.Path.{ap}
use borrow.Author.Tests.{ne_eqb}
use Rattle.refusal.specs.Number.{number_of}
use Rattle.refusal.specs.declared.Why.TheVariants as Why
use Rattle.refusal.proofs.Numbered.{one_why}
use Rattle.reason.specs.Reason.{bytes, passes}
use Rattle.column_reason.proofs.facts.plain_facts.Goals as goal

pub returns-in-TooMany : goal.returns-in-TooMany
returns-in-TooMany c = rw (ap number_of c.in-TooMany.is) (ap (passes c.args.at.had) c.asked_at.ensures)

pub returns-in_default : goal.returns-in_default
returns-in_default c = rw (ne_eqb _ 5 (λ e. c.in_default.not-TooMany (one_why c.args.refusal.0 Why.TooMany e))) (ap bytes c.number_bytes.ensures)
