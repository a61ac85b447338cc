-- `column_form::column_form` meets its contract: the form by the kind that the type has, or 17. Assumes nothing.
use mathlib.Core.Path.{◌∙◌}
use Rattle.column_form.proofs.Types.{of-actors, of_integers, of_deltas, of_booleans, of_names, of_others}
use Rattle.column_form.proofs.column_form.Goals as goal
use Rattle.column_form.proofs.column_form.Goals.{then-typ-eq1-via-then-typ-eq1, then-typ-eq1-via-else-typ-eq1+then-typ-eq2}

pub returns-then-typ-eq1 : goal.returns-then-typ-eq1
returns-then-typ-eq1 c = c.runs_form.ensures ∙ (elim c.then-typ-eq1.branch [ then-typ-eq1-via-then-typ-eq1 w ↦ of-actors _ _ w.if-typ-eq1.true | then-typ-eq1-via-else-typ-eq1+then-typ-eq2 w ↦ of_integers _ _ w.if-typ-eq2.true ])

pub returns-then-typ-eq3 : goal.returns-then-typ-eq3
returns-then-typ-eq3 c = c.sums_form.ensures ∙ of_deltas _ _ c.if-typ-eq3.true

pub returns-then-typ-eq4 : goal.returns-then-typ-eq4
returns-then-typ-eq4 c = c.turns_form.ensures ∙ of_booleans _ _ c.if-typ-eq4.true

pub returns-then-typ-eq5 : goal.returns-then-typ-eq5
returns-then-typ-eq5 c = c.runs_form-then-typ-eq5.ensures ∙ of_names _ _ c.if-typ-eq5.true

pub returns : goal.returns
returns c = of_others _ _ c.if-typ-eq1.false c.if-typ-eq2.false c.if-typ-eq3.false c.if-typ-eq4.false c.if-typ-eq5.false
