-- `rewriting::turns::turned` meets its contract: no readings, more of the byte that is held, or another byte, for which a count is spent. Assumes nothing.
use native.Mathlib.Omega.{arith}
use Rattle.rewriting.specs.Turned.{turns_of}
use Rattle.rewriting.proofs.TurnSteps.{turned_none, turned_same, turned-other}
use Rattle.rewriting.proofs.turns.turned.Goals as goal

pub returns-then-n-eq0 : goal.returns-then-n-eq0
returns-then-n-eq0 c = let a = c.args in record { result_value = turned_none a.room (turns_of a.c) a.flag a.n c.if-n-eq0.true; times_bound = omega arith }

pub returns-then-flag-c : goal.returns-then-flag-c
returns-then-flag-c c =
    let a = c.args in
    record { result_value = turned_same a.room (turns_of a.c) a.flag a.n c.if-n-eq0.false c.if-flag-c.true; times_bound = omega arith }

pub returns : goal.returns
returns c =
    let a = c.args in
    record { result_value = turned-other a.room (turns_of a.c) a.flag a.n c.if-n-eq0.false c.if-flag-c.false c.count_spent.ensures; times_bound = omega arith }
