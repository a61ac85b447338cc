-- `utf8::is_utf8` meets its contract: the bytes from here on go on as is due exactly where all are UTF-8. Assumes nothing.
use Rattle.std.proofs.Common.{refl, arith}
use Rattle.utf8.specs.Utf8.{is_utf8}
use Rattle.utf8.proofs.Scanning.{on, never, end}
use Rattle.utf8.proofs.is_utf8.Goals as goal

pub loop-b-init : goal.loop-b-init
unfolding is_utf8
loop-b-init c = refl

pub loop-b-preserved : goal.loop-b-preserved
loop-b-preserved c = on _ _ _ c.loop-b.invariant c.loop-b-test.true c.in-Some.ensures

pub returns-in_default : goal.returns-in_default
returns-in_default c = never _ _ _ c.loop-b.invariant c.loop-b-test.true c.in_default.ensures

pub returns : goal.returns
returns c =
    let l = c.loop-b in
    end _ l.due.count l.due.low l.due.high l.b-index l.invariant (omega arith)
