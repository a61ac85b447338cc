-- `column_reason::facts::asked_by` meets its contract: one law for each sort of run. Assumes nothing.
use mathlib.Core.Path.{◌∙◌}
use Rattle.delta_decoder.proofs.Kept.{neg_is, pos-is}
use Rattle.column_reason.proofs.Counts.{asks-literal, asks-absent, asks-repeat}
use Rattle.column_reason.proofs.facts.asked_by.Goals as goal

pub returns-then-c-lt0 : goal.returns-then-c-lt0
returns-then-c-lt0 c =
    let m = c.magnitude-m in
    asks-literal m.result _ _ (neg_is c.args.c m.result c.ranges.c c.if-c-lt0.true m.ensures.0)

pub returns-then-m-eq0 : goal.returns-then-m-eq0
returns-then-m-eq0 c =
    let m = c.magnitude-m in
    c.second_at.ensures ∙ asks-absent m.result _ _ (pos-is c.args.c m.result c.ranges.c c.if-c-lt0.false m.ensures.0) c.if-m-eq0.true

pub returns : goal.returns
returns c =
    let m = c.magnitude-m in
    asks-repeat m.result _ _ (pos-is c.args.c m.result c.ranges.c c.if-c-lt0.false m.ensures.0) c.if-m-eq0.false
