-- `utf8::Due::behind` meets its contract: a byte that is due and lies in its range. Assumes nothing.
use Rattle.std.proofs.Common.{◌∙◌, arith}
use Rattle.utf8.proofs.Scanning.{among-due}
use Rattle.utf8.proofs.Due.behind.Goals as goal

pub returns : goal.returns
returns c =
    let d = c.args.self in
    c.bytes.ensures ∙ among-due d.count d.low d.high c.args.b c.if-self-eq0.false (omega arith) (omega arith)
