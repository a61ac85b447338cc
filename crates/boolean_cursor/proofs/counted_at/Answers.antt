-- `boolean_cursor::counted_at` meets its contract: the count is within the limit, or gets 5. Assumes nothing.
use mathlib.Core.Path.{sym}
use native.Mathlib.Omega.{arith}
use Rattle.boolean_cursor.proofs.TurnCursors.{counting-on, counting-many}
use Rattle.boolean_cursor.proofs.counted_at.Goals as goal

pub returns-then-c-had : goal.returns-then-c-had
returns-then-c-had c = sym (counting-on _ _ _ _ _ _ (omega (arith, c.if-had-le-LIMIT.true, c.if-c-had.true)) c.other.ensures)

pub returns-else-c-had : goal.returns-else-c-had
returns-else-c-had c = sym (counting-many _ _ _ _ _ (omega (arith, c.if-had-le-LIMIT.true, c.if-c-had.false)))

pub returns-else-had-le-LIMIT : goal.returns-else-had-le-LIMIT
returns-else-had-le-LIMIT c = sym (counting-many _ _ _ _ _ (omega (arith, c.if-had-le-LIMIT.false)))
