-- `delta_decoder::sums::add` meets its contract: by the difference's sign. Assumes nothing.
use mathlib.Core.Path.{sym, ◌∙◌, ap}
use native.Mathlib.Omega.{arith}
use Rattle.delta_decoder.specs.Sofar.{plus}
use Rattle.delta_decoder.proofs.Kept.{neg_is, pos-is, plus-fall, plus-under, plus-rise, plus-over}
use Rattle.delta_decoder.proofs.sums.add.Goals as goal

pub returns-then-m-n : goal.returns-then-m-n
returns-then-m-n c =
    let m = c.magnitude-m in
    let e = neg_is c.args.d m.result c.ranges.d c.if-d-lt0.true m.ensures.0 in
    sym (ap (plus c.args.n) e ∙ plus-fall c.args.n m.result c.if-m-n.true)

pub returns-then-d-lt0 : goal.returns-then-d-lt0
returns-then-d-lt0 c =
    let m = c.magnitude-m in
    let e = neg_is c.args.d m.result c.ranges.d c.if-d-lt0.true m.ensures.0 in
    sym (ap (plus c.args.n) e ∙ plus-under c.args.n m.result c.if-m-n.false)

pub returns-then-m-n-2 : goal.returns-then-m-n-2
returns-then-m-n-2 c =
    let m = c.magnitude-m in
    let e = pos-is c.args.d m.result c.ranges.d c.if-d-lt0.false m.ensures.0 in
    sym (ap (plus c.args.n) e ∙ plus-rise c.args.n m.result (omega arith))

pub returns : goal.returns
returns c =
    let m = c.magnitude-m in
    let e = pos-is c.args.d m.result c.ranges.d c.if-d-lt0.false m.ensures.0 in
    sym (ap (plus c.args.n) e ∙ plus-over c.args.n m.result (omega arith))
