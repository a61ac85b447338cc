-- `splice::judge_names` meets its contract: the slots' lengths, then the list. Assumes nothing.
use mathlib.Core.Path.{◌∙◌}
use Rattle.splice.proofs.Planning.{text-uneven, text-unflagged, text-given}
use Rattle.splice.proofs.judge_names.Goals as goal

pub returns-then-starts-lens : goal.returns-then-starts-lens
returns-then-starts-lens c = text-uneven _ _ _ _ _ _ _ c.if-starts-lens.true

pub returns-then-lens-present : goal.returns-then-lens-present
returns-then-lens-present c = text-unflagged _ _ _ _ _ _ _ c.if-starts-lens.false c.if-lens-present.true

pub returns : goal.returns
returns c = c.check_names.ensures ∙ text-given _ _ _ _ _ _ _ c.if-starts-lens.false c.if-lens-present.false
