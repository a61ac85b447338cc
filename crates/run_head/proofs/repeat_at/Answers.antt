-- `run_head::repeat_at` meets its contract: the count was judged. Assumes nothing.
use mathlib.Core.Path.{sym, ◌∙◌}
use Rattle.run_head.proofs.repeat_at.Goals as goal

pub returns-then-may_follow : goal.returns-then-may_follow
returns-then-may_follow c = simp (sym c.may_follow.ensures ∙ c.if-may_follow.true)

pub returns-else-may_follow : goal.returns-else-may_follow
returns-else-may_follow c = simp (sym c.may_follow.ensures ∙ c.if-may_follow.false)
