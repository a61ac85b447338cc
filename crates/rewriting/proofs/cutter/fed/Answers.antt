-- `rewriting::cutter::fed` meets its contract: no reading, one like the held one, or another, for which the held one is closed. Assumes nothing.
use mathlib.Core.Path.{◌∙◌}
use native.Mathlib.Omega.{arith}
use Rattle.std.specs.Prelude.{is_some}
use Rattle.rewriting.proofs.Closing.{either-yes, either-no, fed-none, fed-same, fed-other}
use Rattle.rewriting.proofs.cutter.fed.Goals as goal
use Rattle.rewriting.proofs.cutter.fed.Goals.{else-c, then-c}

pub returns-then-n-eq0 : goal.returns-then-n-eq0
returns-then-n-eq0 c =
    record { result_value = fed-none c.args.s.now c.args.room c.args.c c.args.held c.args.n c.if-n-eq0.true; within = (c.requires.0, omega arith) }

pub returns-then-same_held : goal.returns-then-same_held
returns-then-same_held c =
    let a = c.args in
    let p = c.requires in
    let v = c.is_some-on.ensures in
    let yes = either-yes a.c.any (is_some a.held) in
    let no = either-no a.c.any (is_some a.held) in
    let e = c.same_held.ensures in
    record {
      result_value = fed-same a.s.now a.room a.c a.held a.n c.if-n-eq0.false e
          (elim c.if-c.branch [ then-c w ↦ w.result-is ∙ yes w.if-c.true | else-c w ↦ no w.if-c.false (w.result-is ∙ v) ]) c.if-same_held.true;
      within = (p.0, omega arith);
    }

pub returns-then-c-2 : goal.returns-then-c-2
returns-then-c-2 c =
    let a = c.args in
    let p = c.requires in
    let v = c.is_some-on.ensures in
    let i = either-yes a.c.any (is_some a.held) c.if-c-2.true in
    let e = c.same_held.ensures in
    let d = c.closed-d.ensures in
    record { result_value = fed-other a.s.now a.room a.c a.held a.n c.if-n-eq0.false e i c.if-same_held.false v d.result_value; within = (p.1, omega arith) }

pub returns-else-c-2 : goal.returns-else-c-2
returns-else-c-2 c =
    let a = c.args in
    let p = c.requires in
    let v = c.is_some-on.ensures in
    let i = either-no a.c.any (is_some a.held) c.if-c-2.false v in
    let e = c.same_held.ensures in
    let d = c.closed-d.ensures in
    record { result_value = fed-other a.s.now a.room a.c a.held a.n c.if-n-eq0.false e i c.if-same_held.false v d.result_value; within = (p.1, omega arith) }
