-- `delta_cursor::add` meets its contract. Assumes nothing.
use mathlib.Core.Path.{sym, ◌∙◌}
use Rattle.delta_cursor.proofs.Held.{held_fits, sum-held, sum-wide}
use Rattle.delta_cursor.proofs.add.Goals as goal

pub overflow_add-result : goal.overflow_add-result
overflow_add-result c =
    held_fits c.args.z c.args.d c.ranges.z c.ranges.d (sym c.is_held.ensures ∙ c.if-is_held.true)

pub returns-then-is_held : goal.returns-then-is_held
returns-then-is_held c =
    sum-held c.args.z c.args.d c.ranges.z c.ranges.d (sym c.is_held.ensures ∙ c.if-is_held.true)

pub returns-else-is_held : goal.returns-else-is_held
returns-else-is_held c =
    sum-wide c.args.z c.args.d c.ranges.z c.ranges.d (sym c.is_held.ensures ∙ c.if-is_held.false)
