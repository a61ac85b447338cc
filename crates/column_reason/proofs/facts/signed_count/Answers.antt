-- `column_reason::facts::signed_count` meets its contract: a count by its sign and size. Assumes nothing.
use Rattle.delta_decoder.proofs.Kept.{neg_is, pos-is}
use Rattle.column_reason.proofs.Counts.{told-minus, told-plus}
use Rattle.column_reason.proofs.facts.signed_count.Goals as goal

pub returns-then-c-lt0 : goal.returns-then-c-lt0
returns-then-c-lt0 c =
    let m = c.magnitude-m in
    told-minus m.result 0 (neg_is c.args.c m.result c.ranges.c c.if-c-lt0.true m.ensures.0)

pub returns : goal.returns
returns c =
    let m = c.magnitude-m in
    told-plus m.result 0 (pos-is c.args.c m.result c.ranges.c c.if-c-lt0.false m.ensures.0)
