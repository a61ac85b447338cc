-- `rewriting::cutter::closed` meets its contract: absent readings, one value, or several. Assumes nothing.
use Prim.Native.Nat.{◌-◌}
use native.Mathlib.Omega.{arith}
use Rattle.encoding.specs.Cases.{answer_of}
use Rattle.rewriting.proofs.Comparing.{within-value}
use Rattle.rewriting.proofs.Closing.{single-few, several-few, closed-absent, closed-single, closed-several}
use Rattle.rewriting.proofs.cutter.closed.Goals as goal

pub overflow_sub-size : goal.overflow_sub-size
overflow_sub-size c =
    let k = within-value c.args.s.now _ _ _ c.in-Some.is c.requires.0 in
    omega arith

pub returns-then-c-eq1 : goal.returns-then-c-eq1
returns-then-c-eq1 c =
    let a = c.args in
    let p = c.requires in
    let t = c.if-c-eq1.true in
    let e = c.single.ensures in
    let k = single-few a.room a.on (answer_of a.c.used) a.c.literals (c.in-Some.till - c.in-Some.from) e in
    record { result_value = closed-single a.s.now a.room a.on a.c _ _ c.in-Some.is p.0 t e; literals_bound = omega arith }

pub returns-in-None : goal.returns-in-None
returns-in-None c =
    let a = c.args in
    record { result_value = closed-absent a.s.now a.room a.on a.c c.in-None.is c.absent_run.ensures c.spent.ensures; literals_bound = omega arith }

pub returns-else-c-eq1 : goal.returns-else-c-eq1
returns-else-c-eq1 c =
    let a = c.args in
    let p = c.requires in
    let e = c.several.ensures in
    let k = several-few a.room (answer_of a.c.used) a.c.literals a.c.times (c.in-Some.till - c.in-Some.from) e in
    record { result_value = closed-several a.s.now a.room a.on a.c _ _ c.in-Some.is p.0 c.if-c-eq1.false e; literals_bound = omega arith }
