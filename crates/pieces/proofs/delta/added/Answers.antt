-- `pieces::delta::added` meets its contract: by the difference's sign; that all are held says that the last sum fits. Assumes nothing.
use mathlib.Core.Path.{sym, ◌∙◌, ap}
use native.Mathlib.Omega.{arith}
use lib.IntN.{ℤ}
use Rattle.delta_decoder.specs.Sofar.{plus_times, times_held}
use Rattle.delta_decoder.proofs.Kept.{neg_is, pos-is, times-fall, times-rise}
use Rattle.pieces.proofs.Repeating.{fall-fits, rise-fits}
use Rattle.pieces.proofs.delta.added.Goals as goal

pub overflow_sub-result : goal.overflow_sub-result
overflow_sub-result c =
    let m = c.magnitude-m in
    let e = neg_is c.args.d m.result c.ranges.d c.if-d-lt0.true m.ensures.0 in
    fall-fits c.args.n m.result c.args.times (sym (ap (λ (x : ℤ). times_held c.args.n x c.args.times) e) ∙ c.requires)

pub overflow_mul-result : goal.overflow_mul-result
overflow_mul-result c = omega (arith, overflow_sub-result c)

pub returns-then-d-lt0 : goal.returns-then-d-lt0
returns-then-d-lt0 c =
    let m = c.magnitude-m in
    let e = neg_is c.args.d m.result c.ranges.d c.if-d-lt0.true m.ensures.0 in
    ap (λ (x : ℤ). plus_times c.args.n x c.args.times) e ∙ times-fall c.args.n m.result c.args.times (overflow_sub-result c)

pub overflow_add-result-2 : goal.overflow_add-result-2
overflow_add-result-2 c =
    let m = c.magnitude-m in
    let e = pos-is c.args.d m.result c.ranges.d c.if-d-lt0.false m.ensures.0 in
    let l = rise-fits c.args.n m.result c.args.times (omega arith) (sym (ap (λ (x : ℤ). times_held c.args.n x c.args.times) e) ∙ c.requires) in
    omega arith

pub overflow_mul-result-2 : goal.overflow_mul-result-2
overflow_mul-result-2 c = omega (arith, overflow_add-result-2 c)

pub returns : goal.returns
returns c =
    let m = c.magnitude-m in
    let e = pos-is c.args.d m.result c.ranges.d c.if-d-lt0.false m.ensures.0 in
    ap (λ (x : ℤ). plus_times c.args.n x c.args.times) e ∙ times-rise c.args.n m.result c.args.times (omega (arith, overflow_add-result-2 c))
