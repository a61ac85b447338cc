-- `rewriting::turns::turns_end` meets its contract: nothing for no readings, else the last count spent. Assumes nothing.
use Rattle.rewriting.specs.Turned.{turns_of}
use Rattle.rewriting.proofs.TurnSteps.{counted_none, counted-some}
use Rattle.rewriting.proofs.turns.turns_end.Goals as goal

pub returns-then-had-eq0 : goal.returns-then-had-eq0
returns-then-had-eq0 c = let a = c.args in counted_none a.room (turns_of a.c) a.had c.if-had-eq0.true

pub returns : goal.returns
returns c = let a = c.args in counted-some a.room (turns_of a.c) a.had c.if-had-eq0.false c.count_spent.ensures
