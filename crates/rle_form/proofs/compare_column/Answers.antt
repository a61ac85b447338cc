-- `rle_form::compare_column` meets its contract: nothing is written where no value is present. Assumes nothing.
use mathlib.Core.Path.{sym, ◌∙◌, ap}
use Rattle.own_form.specs.Difference.{differ_at}
use Rattle.own_form.specs.Form.{compared}
use Rattle.runs.proofs.Ends.{element_laws}
use Rattle.rle_form.proofs.Turning.{written-some, bare-differs, bare-same}
use Rattle.rle_form.proofs.compare_column.Goals as goal

pub returns-then-any_value : goal.returns-then-any_value
returns-then-any_value c =
    let a = c.args in
    let e = written-some _ (element_laws a.values) a.s.now (sym c.any_value.ensures ∙ c.if-any_value.true) in
    c.compare_stretches.ensures ∙ ap (λ w. compared (differ_at 0 a.s.now w)) e

pub returns-then-s-gt0 : goal.returns-then-s-gt0
returns-then-s-gt0 c =
    let a = c.args in
    bare-differs _ (element_laws a.values) a.s.now (sym c.any_value.ensures ∙ c.if-any_value.false) c.if-s-gt0.true

pub returns : goal.returns
returns c =
    let a = c.args in
    bare-same _ (element_laws a.values) a.s.now (sym c.any_value.ensures ∙ c.if-any_value.false) c.if-s-gt0.false
